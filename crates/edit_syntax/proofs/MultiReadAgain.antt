-- Parsing the text of a multi-line string gives it back.
use Rattle.std.proofs.Common.{◌≡◌, ℕ, zero, suc, ◌<◌, ◌≤◌, true, false, eqb, eq-eqb, List, [], ◌∷◌, length, Some, refl, subst, ◌⊎◌, inl, inr, true≢false, arith}
use Rattle.std.proofs.lemmas.Bool.Decides.{nat_tests}
use Rattle.std.specs.List.{AllByRecursion}
use Rattle.edit_syntax.specs.Characters.{line_feed, carriage_return, quote, apostrophe, is_blank}
use Rattle.edit_syntax.specs.Strings.{Piece, plain, letter, short, long, feed, fold, delimiter, piece, pieces, IsMultiPiece, IsRawPiece, RunsFit, FoldsAreWhole, begins_with_space}
use Rattle.edit_syntax.specs.Grammar.{three}
use Rattle.edit_syntax.specs.Reading.{first, begins_space, is_line_break, line_piece_at, is_closing_delimiter, body_at, multi_at}
use Rattle.edit_syntax.proofs.TokenLaws.{length-pieces}
use Rattle.edit_syntax.proofs.MultiLaws.{IsOther, FoldEnds}
use Rattle.edit_syntax.proofs.PieceReadAgain.{basic_no_break, literal_no_break, escape_again, raw_again, basic_first, raw_first}

-- ---- all pieces

-- what pieces of one kind of string need to be read again
record Rereads (delimiter_byte : ℕ) (valid : Piece → Type 0) : Type 0 where
  no_blank : is_blank delimiter_byte ≡ false
  no_break : is_line_break delimiter_byte ≡ false
  again : (p : Piece) (rest : List ℕ) → valid p → IsOther p → FoldEnds p rest
      → line_piece_at delimiter_byte (piece delimiter_byte p rest) ≡ Some (p, rest)
  other : (p : Piece) (rest : List ℕ) → valid p → IsOther p → eqb (first (piece delimiter_byte p rest)) delimiter_byte ≡ false
  plain_other : (b : ℕ) → valid (plain b) → is_line_break b ≡ false

basic_rereads : Rereads quote IsMultiPiece
unfolding line_piece_at
basic_rereads = record {
  no_blank = refl;
  no_break = refl;
  again = escape_again;
  other = basic_first;
  plain_other = basic_no_break;
}

raw_rereads : Rereads apostrophe IsRawPiece
unfolding line_piece_at
raw_rereads = record {
  no_blank = refl;
  no_break = refl;
  again = raw_again;
  other = raw_first;
  plain_other = literal_no_break;
}

-- a delimiter, or another piece
sort : (p : Piece) → (p ≡ delimiter) ⊎ IsOther p
sort (plain b) = inr tt
sort (letter c) = inr tt
sort (short digits) = inr tt
sort (long digits) = inr tt
sort (feed e) = inr tt
sort (fold ws e more) = inr tt
sort delimiter = inl refl

no_space_byte : (b : ℕ) (rest : List ℕ) → is_blank b ≡ false → is_line_break b ≡ false
    → begins_space (b ∷ rest) ≡ false
no_space_byte b rest h g =
    let not_lf : eqb b line_feed ≡ false = grind (arith, nat_tests) in
    let not_cr : eqb b carriage_return ≡ false = grind (arith, nat_tests) in
    rw (h, not_lf, not_cr) refl

-- where no piece of white space comes first, no white space does
spaces_over : (delimiter_byte : ℕ) (valid : Piece → Type 0) → Rereads delimiter_byte valid → (ps : List Piece) (rest : List ℕ)
    → AllByRecursion valid ps → begins_with_space ps ≡ false
    → begins_space (pieces delimiter_byte ps (three delimiter_byte rest)) ≡ false
spaces_over delimiter_byte valid kind [] rest h e = no_space_byte delimiter_byte
    (delimiter_byte ∷ (delimiter_byte ∷ rest)) kind.no_blank kind.no_break
spaces_over delimiter_byte valid kind (plain b ∷ ps) rest h e = no_space_byte b (pieces delimiter_byte ps (three delimiter_byte rest)) e
    (kind.plain_other b h.0)
spaces_over delimiter_byte valid kind (letter c ∷ ps) rest h e = refl
spaces_over delimiter_byte valid kind (short digits ∷ ps) rest h e = refl
spaces_over delimiter_byte valid kind (long digits ∷ ps) rest h e = refl
spaces_over delimiter_byte valid kind (feed end ∷ ps) rest h e = absurd (true≢false e)
spaces_over delimiter_byte valid kind (fold ws end more ∷ ps) rest h e = refl
spaces_over delimiter_byte valid kind (delimiter ∷ ps) rest h e = no_space_byte delimiter_byte
    (pieces delimiter_byte ps (three delimiter_byte rest)) kind.no_blank kind.no_break

fold_ends : (delimiter_byte : ℕ) (valid : Piece → Type 0) → Rereads delimiter_byte valid
    → (p : Piece) (ps : List Piece) (rest : List ℕ) → AllByRecursion valid ps → FoldsAreWhole (p ∷ ps)
    → FoldEnds p (pieces delimiter_byte ps (three delimiter_byte rest))
fold_ends delimiter_byte valid kind (plain b) ps rest h w = tt
fold_ends delimiter_byte valid kind (letter c) ps rest h w = tt
fold_ends delimiter_byte valid kind (short digits) ps rest h w = tt
fold_ends delimiter_byte valid kind (long digits) ps rest h w = tt
fold_ends delimiter_byte valid kind (feed e) ps rest h w = tt
fold_ends delimiter_byte valid kind (fold ws e more) ps rest h w = spaces_over delimiter_byte valid kind ps rest h w.0
fold_ends delimiter_byte valid kind delimiter ps rest h w = tt

folds_behind : (p : Piece) (ps : List Piece) → FoldsAreWhole (p ∷ ps) → FoldsAreWhole ps
folds_behind (plain b) ps h = h
folds_behind (letter c) ps h = h
folds_behind (short digits) ps h = h
folds_behind (long digits) ps h = h
folds_behind (feed e) ps h = h
folds_behind (fold ws e more) ps h = h.1
folds_behind delimiter ps h = h

runs_behind : (n : ℕ) (p : Piece) (ps : List Piece) → IsOther p → RunsFit n (p ∷ ps) → RunsFit 2 ps
runs_behind n (plain b) ps o h = h
runs_behind n (letter c) ps o h = h
runs_behind n (short digits) ps o h = h
runs_behind n (long digits) ps o h = h
runs_behind n (feed e) ps o h = h
runs_behind n (fold ws e more) ps o h = h
runs_behind n delimiter ps o h = absurd o

closes_other : (delimiter_byte : ℕ) (text : List ℕ) → eqb (first text) delimiter_byte ≡ false
    → is_closing_delimiter delimiter_byte text ≡ false
closes_other delimiter_byte text h = rw h refl

closes_end : (delimiter_byte : ℕ) (rest : List ℕ) → eqb (first rest) delimiter_byte ≡ false
    → is_closing_delimiter delimiter_byte (three delimiter_byte rest) ≡ true
closes_end delimiter_byte rest h = rw (eq-eqb delimiter_byte delimiter_byte refl, h) refl

closes_four : (delimiter_byte : ℕ) (rest : List ℕ)
    → is_closing_delimiter delimiter_byte (delimiter_byte ∷ (delimiter_byte ∷ (delimiter_byte ∷ (delimiter_byte ∷ rest)))) ≡ false
closes_four delimiter_byte rest = rw (eq-eqb delimiter_byte delimiter_byte refl) refl

closes_second : (delimiter_byte : ℕ) (text : List ℕ) → eqb (first text) delimiter_byte ≡ false
    → is_closing_delimiter delimiter_byte (delimiter_byte ∷ text) ≡ false
closes_second delimiter_byte text h = rw (eq-eqb delimiter_byte delimiter_byte refl, h) refl

closes_third : (delimiter_byte : ℕ) (text : List ℕ) → eqb (first text) delimiter_byte ≡ false
    → is_closing_delimiter delimiter_byte (delimiter_byte ∷ (delimiter_byte ∷ text)) ≡ false
closes_third delimiter_byte text h = rw (eq-eqb delimiter_byte delimiter_byte refl, h) refl

too_many : (few : ℕ) (ps : List Piece) → few ≤ 2 → RunsFit few (delimiter ∷ (delimiter ∷ (delimiter ∷ ps)))
    → ⊥
too_many zero ps le h = h
too_many (suc zero) ps le h = h
too_many (suc (suc zero)) ps le h = h
too_many (suc (suc (suc n))) ps le h = absurd (omega arith)

-- behind a delimiter that is text the string is not over
closes_delimiter : (delimiter_byte : ℕ) (valid : Piece → Type 0) → Rereads delimiter_byte valid
    → (few : ℕ) (ps : List Piece) (rest : List ℕ) → few ≤ 2 → AllByRecursion valid ps
    → RunsFit few (delimiter ∷ ps)
    → is_closing_delimiter delimiter_byte (delimiter_byte ∷ pieces delimiter_byte ps (three delimiter_byte rest)) ≡ false
closes_delimiter delimiter_byte valid kind few [] rest le h runs = closes_four delimiter_byte rest
closes_delimiter delimiter_byte valid kind few (q ∷ []) rest le h runs = elim (sort q) [
  | inl e ↦ rw e (closes_four delimiter_byte (delimiter_byte ∷ rest))
  | inr o ↦ closes_second delimiter_byte (piece delimiter_byte q (three delimiter_byte rest)) (kind.other q (three delimiter_byte rest) h.0 o)
]
closes_delimiter delimiter_byte valid kind few (q ∷ r ∷ ps) rest le h runs = elim (sort q) [
  | inl e ↦ elim (sort r) [
    | inl f ↦ absurd (too_many few ps le
        (subst (λ (x : Piece). RunsFit few (delimiter ∷ (delimiter ∷ (x ∷ ps)))) f
        (subst (λ (x : Piece). RunsFit few (delimiter ∷ (x ∷ (r ∷ ps)))) e runs)))
    | inr o ↦ rw e (closes_third delimiter_byte (piece delimiter_byte r (pieces delimiter_byte ps (three delimiter_byte rest)))
        (kind.other r (pieces delimiter_byte ps (three delimiter_byte rest)) h.1.0 o))
  ]
  | inr o ↦ closes_second delimiter_byte (piece delimiter_byte q (pieces delimiter_byte (r ∷ ps) (three delimiter_byte rest)))
      (kind.other q (pieces delimiter_byte (r ∷ ps) (three delimiter_byte rest)) h.0 o)
]

-- pieces that are valid, in a string
record AreFine (valid : Piece → Type 0) (few : ℕ) (ps : List Piece) : Type 0 where
  all : AllByRecursion valid ps
  runs : RunsFit few ps
  folds : FoldsAreWhole ps
  bound : few ≤ 2

delimiter_again : (delimiter_byte : ℕ) (valid : Piece → Type 0) → Rereads delimiter_byte valid
    → (n few : ℕ) (ps : List Piece) (rest : List ℕ) → AreFine valid few (delimiter ∷ ps)
    → ((less : ℕ) → AreFine valid less ps → body_at delimiter_byte n less (pieces delimiter_byte ps (three delimiter_byte rest))
    ≡ Some (ps, rest)) → body_at delimiter_byte (suc n) few (delimiter_byte ∷ pieces delimiter_byte ps (three delimiter_byte rest))
    ≡ Some (delimiter ∷ ps, rest)
unfolding body_at
delimiter_again delimiter_byte valid kind n zero ps rest h others = absurd h.runs
delimiter_again delimiter_byte valid kind n (suc less) ps rest h others =
    let more = others less
    (record { all = h.all.1; runs = h.runs; folds = h.folds; bound = let k = h.bound in omega arith }) in
    rw (
      closes_delimiter delimiter_byte valid kind (suc less) ps rest h.bound h.all.1 h.runs,
      eq-eqb delimiter_byte delimiter_byte refl,
      more,
    ) refl

body_again : (delimiter_byte : ℕ) (valid : Piece → Type 0) → Rereads delimiter_byte valid
    → (n few : ℕ) (ps : List Piece) (rest : List ℕ) → AreFine valid few ps → eqb (first rest) delimiter_byte ≡ false
    → length ps < n
    → body_at delimiter_byte n few (pieces delimiter_byte ps (three delimiter_byte rest)) ≡ Some (ps, rest)
unfolding body_at
body_again delimiter_byte valid kind zero few ps rest h ends lt = absurd (omega arith)
body_again delimiter_byte valid kind (suc n) few [] rest h ends lt = rw (closes_end delimiter_byte rest ends) refl
body_again delimiter_byte valid kind (suc n) few (p ∷ ps) rest h ends lt = elim (sort p) [
  | inl e ↦
      let fine : AreFine valid few (delimiter ∷ ps) = subst (λ (x : Piece). AreFine valid few (x ∷ ps)) e h in
      rw e (delimiter_again delimiter_byte valid kind n few ps rest fine
      (λ less g. body_again delimiter_byte valid kind n less ps rest g ends (omega arith)))
  | inr o ↦
      let tail = pieces delimiter_byte ps (three delimiter_byte rest) in
      let other = kind.other p tail h.all.0 o in
      let here = kind.again p tail h.all.0 o (fold_ends delimiter_byte valid kind p ps rest h.all.1 h.folds) in
      let more = body_again delimiter_byte valid kind n 2 ps rest
      (record {
        all = h.all.1;
        runs = runs_behind few p ps o h.runs;
        folds = folds_behind p ps h.folds;
        bound = omega arith;
      }) ends (omega arith) in
      rw (closes_other delimiter_byte (piece delimiter_byte p tail) other, other, here, more) refl
]

pub multi_basic_again : (ps : List Piece) (rest : List ℕ) → AllByRecursion IsMultiPiece ps → RunsFit 2 ps
    → FoldsAreWhole ps → eqb (first rest) quote ≡ false → multi_at quote (pieces quote ps (three quote rest))
    ≡ Some (ps, rest)
unfolding multi_at
multi_basic_again ps rest h runs folds ends =
    let text = pieces quote ps (three quote rest) in
    body_again quote IsMultiPiece basic_rereads (length text) 2 ps rest
    (record { all = h; runs = runs; folds = folds; bound = omega arith }) ends
    (let k = length-pieces quote ps (three quote rest) in omega arith)

raw_folds : (ps : List Piece) → AllByRecursion IsRawPiece ps → FoldsAreWhole ps
raw_folds [] h = tt
raw_folds (plain b ∷ ps) h = raw_folds ps h.1
raw_folds (letter c ∷ ps) h = absurd h.0
raw_folds (short digits ∷ ps) h = absurd h.0
raw_folds (long digits ∷ ps) h = absurd h.0
raw_folds (feed e ∷ ps) h = raw_folds ps h.1
raw_folds (fold ws e more ∷ ps) h = absurd h.0
raw_folds (delimiter ∷ ps) h = raw_folds ps h.1

pub multi_literal_again : (ps : List Piece) (rest : List ℕ) → AllByRecursion IsRawPiece ps → RunsFit 2 ps
    → eqb (first rest) apostrophe ≡ false → multi_at apostrophe (pieces apostrophe ps (three apostrophe rest))
    ≡ Some (ps, rest)
unfolding multi_at
multi_literal_again ps rest h runs ends =
    let text = pieces apostrophe ps (three apostrophe rest) in
    body_again apostrophe IsRawPiece raw_rereads (length text) 2 ps rest
    (record { all = h; runs = runs; folds = raw_folds ps h; bound = omega arith }) ends
    (let k = length-pieces apostrophe ps (three apostrophe rest) in omega arith)
