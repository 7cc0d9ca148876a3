-- Multi-line strings: the parser accepts exactly what is written as its result says.
use Rattle.std.proofs.Common.{◌≡◌, ℕ, zero, suc, ◌+◌, ◌<◌, Bool, true, false, eqb, List, [], ◌∷◌, ◌++◌, length, slice_index, drop, Some, refl, sym, ap, subst, ◌∙◌, inl, inr, true≢false, arith}
use Rattle.std.specs.List.{AllByRecursion}
use Rattle.edit_syntax.specs.Characters.{quote, apostrophe, backslash, is_blank, is_basic_ch, is_literal_ch}
use Rattle.edit_syntax.specs.Strings.{LineEnd, lf, crlf, line_end, Piece, plain, letter, short, long, feed, fold, delimiter, piece, pieces, IsBasicPiece, IsMultiPiece, IsRawPiece, RunsFit, FoldsAreWhole, begins_with_space}
use Rattle.edit_syntax.specs.Grammar.{three}
use Rattle.edit_syntax.specs.Reading.{first, blanks, past_blanks, line_end_at, begins_space, spaces_at, fold_at, text_newline_at, is_line_break, basic_piece_at, literal_piece_at, line_piece_at, is_closing_delimiter, delimiter_at, body_at, multi_at}
use Rattle.edit_syntax.specs.ReadingNumbers.{begins}
use Rattle.edit_syntax.proofs.TokenLaws.{bind_some, chosen, tested, some_is, first_is, first_of, at_drop, run_parts, run_all, escape_sound}
use Rattle.std.proofs.lemmas.Bool.{and_parts}
use Rattle.edit_syntax.proofs.FoldLaws.{line_end_sound, spaces_sound}

-- ---- one piece

-- a piece but a delimiter
abbrev pub IsOther : Piece → Type 0
IsOther delimiter = ⊥
IsOther _ = Unit {0}

-- no white space and no newline follows a fold
abbrev pub FoldEnds : Piece → List ℕ → Type 0
FoldEnds (fold ws e more) rest = begins_space rest ≡ false
FoldEnds _ rest = Unit {0}

-- a piece that is valid was read
pub record IsRead (delimiter_byte : ℕ) (valid : Piece → Type 0) (text : List ℕ) (x : Piece × List ℕ) : Type 0 where
  pub spelled : text ≡ piece delimiter_byte x.0 x.1
  pub fine : valid x.0
  pub other : IsOther x.0
  pub ends : FoldEnds x.0 x.1

feed_sound : (delimiter_byte : ℕ) (valid : Piece → Type 0) → ((e : LineEnd) → valid (feed e))
    → (text : List ℕ) (x : Piece × List ℕ) → text_newline_at text ≡ Some x → IsRead delimiter_byte valid text x
unfolding text_newline_at
feed_sound delimiter_byte valid all text x e =
    let a = bind_some (line_end_at text) _ x e in
    subst (IsRead delimiter_byte valid text) (some_is _ x a.2)
    (record { spelled = line_end_sound text a.0 a.1; fine = all a.0.0; other = tt; ends = tt })

fold_sound : (delimiter_byte : ℕ) (text : List ℕ) (x : Piece × List ℕ) → eqb (first text) backslash ≡ true
    → fold_at text ≡ Some x → IsRead delimiter_byte IsMultiPiece text x
unfolding fold_at
fold_sound delimiter_byte text x opened e =
    let inner = drop 1 text in
    let a = bind_some (line_end_at (past_blanks inner)) _ x e in
    let b = bind_some (spaces_at (length a.0.1 + 1) a.0.1) _ x a.2 in
    let l = line_end_sound (past_blanks inner) a.0 a.1 in
    let s = spaces_sound (length a.0.1 + 1) a.0.1 b.0 b.1 in
    subst (IsRead delimiter_byte IsMultiPiece text) (some_is _ x b.2) (record {
      spelled = first_is backslash text (omega arith) opened ∙
          ap (λ (r : List ℕ). backslash ∷ r) (run_parts is_blank inner ∙
          ap (λ (r : List ℕ). blanks inner ++ r) (l ∙ ap (line_end a.0.0) s.spelled));
      fine = (run_all is_blank inner, s.valid);
      other = tt;
      ends = s.ended;
    })

basic_multi : (p : Piece) → IsBasicPiece p → IsMultiPiece p × IsOther p × ((rest : List ℕ) → FoldEnds p rest)
basic_multi (plain b) h = (h, tt, λ rest. tt)
basic_multi (letter c) h = (h, tt, λ rest. tt)
basic_multi (short digits) h = (h, tt, λ rest. tt)
basic_multi (long digits) h = (h, tt, λ rest. tt)
basic_multi (feed e) h = absurd h
basic_multi (fold ws e more) h = absurd h
basic_multi delimiter h = absurd h

multi_piece_sound : (text : List ℕ) (x : Piece × List ℕ) → basic_piece_at text ≡ Some x
    → IsRead quote IsMultiPiece text x
unfolding basic_piece_at
multi_piece_sound text x e = elim (chosen (is_line_break (first text)) _ _ (Some x) e) [
  | inl h ↦ feed_sound quote IsMultiPiece (λ e. tt) text x h.1
  | inr h ↦ elim (chosen (eqb (first text) backslash) _ _ (Some x) h.1) [
    | inl i ↦ elim (chosen (is_line_break (first (past_blanks (drop 1 text)))) _ _ (Some x) i.1) [
      | inl j ↦ fold_sound quote text x i.0 j.1
      | inr j ↦
          let s = escape_sound text x i.0 j.1 in
          let m = basic_multi x.0 s.1 in
          record { spelled = s.0; fine = m.0; other = m.1; ends = m.2 x.1 }
    ]
    | inr i ↦
        let t = tested (is_basic_ch (first text)) (Some (plain (first text), drop 1 text)) x i.1 in
        subst (IsRead quote IsMultiPiece text) (some_is _ x t.1)
        (record { spelled = first_of is_basic_ch text refl t.0; fine = t.0; other = tt; ends = tt })
  ]
]

raw_sound : (text : List ℕ) (x : Piece × List ℕ) → literal_piece_at text ≡ Some x
    → IsRead apostrophe IsRawPiece text x
unfolding literal_piece_at
raw_sound text x e = elim (chosen (is_line_break (first text)) _ _ (Some x) e) [
  | inl h ↦ feed_sound apostrophe IsRawPiece (λ e. tt) text x h.1
  | inr h ↦
      let t = tested (is_literal_ch (first text)) (Some (plain (first text), drop 1 text)) x h.1 in
      subst (IsRead apostrophe IsRawPiece text) (some_is _ x t.1)
      (record { spelled = first_of is_literal_ch text refl t.0; fine = t.0; other = tt; ends = tt })
]

-- ---- what is read is spelled so

runs_more : (n : ℕ) (p : Piece) (ps : List Piece) → IsOther p → RunsFit 2 ps → RunsFit n (p ∷ ps)
runs_more n (plain b) ps o h = h
runs_more n (letter c) ps o h = h
runs_more n (short digits) ps o h = h
runs_more n (long digits) ps o h = h
runs_more n (feed e) ps o h = h
runs_more n (fold ws e more) ps o h = h
runs_more n delimiter ps o h = absurd o

no_blank : (b : ℕ) (rest : List ℕ) → begins_space (b ∷ rest) ≡ false → is_blank b ≡ false
no_blank b rest h = go (is_blank b) refl
  where
    go : (c : Bool) → is_blank b ≡ c → is_blank b ≡ false
    go false e = e
    go true e = absurd (true≢false (let k : begins_space (b ∷ rest) ≡ true = rw e refl in sym k ∙ h))

-- no white space comes first, where none is read
no_space : (delimiter_byte : ℕ) (ps : List Piece) (rest : List ℕ) → begins_space (pieces delimiter_byte ps rest) ≡ false
    → begins_with_space ps ≡ false
no_space delimiter_byte [] rest h = refl
no_space delimiter_byte (plain b ∷ ps) rest h = no_blank b (pieces delimiter_byte ps rest) h
no_space delimiter_byte (letter c ∷ ps) rest h = refl
no_space delimiter_byte (short digits ∷ ps) rest h = refl
no_space delimiter_byte (long digits ∷ ps) rest h = refl
no_space delimiter_byte (feed lf ∷ ps) rest h = absurd (true≢false h)
no_space delimiter_byte (feed crlf ∷ ps) rest h = absurd (true≢false h)
no_space delimiter_byte (fold ws e more ∷ ps) rest h = refl
no_space delimiter_byte (delimiter ∷ ps) rest h = refl

folds_more : (delimiter_byte : ℕ) (p : Piece) (ps : List Piece) (rest : List ℕ) → IsOther p
    → FoldEnds p (pieces delimiter_byte ps rest) → FoldsAreWhole ps → FoldsAreWhole (p ∷ ps)
folds_more delimiter_byte (plain b) ps rest o ends h = h
folds_more delimiter_byte (letter c) ps rest o ends h = h
folds_more delimiter_byte (short digits) ps rest o ends h = h
folds_more delimiter_byte (long digits) ps rest o ends h = h
folds_more delimiter_byte (feed e) ps rest o ends h = h
folds_more delimiter_byte (fold ws e more) ps rest o ends h = (no_space delimiter_byte ps rest ends, h)
folds_more delimiter_byte delimiter ps rest o ends h = absurd o

-- the pieces of a string over several lines, the closing delimiters and what follows
pub record IsBody (delimiter_byte : ℕ) (valid : Piece → Type 0) (few : ℕ) (text : List ℕ)
    (x : List Piece × List ℕ) : Type 0 where
  pub spelled : text ≡ pieces delimiter_byte x.0 (three delimiter_byte x.1)
  pub fine : AllByRecursion valid x.0
  pub runs : RunsFit few x.0
  pub folds : FoldsAreWhole x.0

-- what pieces of one kind of string need
pub record IsKind (delimiter_byte : ℕ) (valid : Piece → Type 0) : Type 0 where
  pub above : 0 < delimiter_byte
  pub sound : (text : List ℕ) (x : Piece × List ℕ) → line_piece_at delimiter_byte text ≡ Some x
      → IsRead delimiter_byte valid text x
  pub delimits : valid delimiter

begins_three : (delimiter_byte : ℕ) (text : List ℕ) → 0 < delimiter_byte → is_closing_delimiter delimiter_byte text ≡ true
    → text ≡ three delimiter_byte (drop 3 text)
begins_three delimiter_byte text lt e =
    let w = and_parts (begins delimiter_byte delimiter_byte delimiter_byte text) _ e in
    let y = and_parts _ (eqb (slice_index text 2) delimiter_byte) w.0 in
    let z = and_parts _ (eqb (slice_index text 1) delimiter_byte) y.0 in
    first_is delimiter_byte text lt z.0 ∙
    ap (λ (r : List ℕ). delimiter_byte ∷ r) (at_drop 1 delimiter_byte text lt z.1 ∙
    ap (λ (r : List ℕ). delimiter_byte ∷ r) (at_drop 2 delimiter_byte text lt y.1))

body_sound : (delimiter_byte : ℕ) (valid : Piece → Type 0) → IsKind delimiter_byte valid
    → (n few : ℕ) (text : List ℕ) (x : List Piece × List ℕ) → body_at delimiter_byte n few text ≡ Some x
    → IsBody delimiter_byte valid few text x
unfolding body_at
body_sound delimiter_byte valid kind zero few text x e = absurd cc
body_sound delimiter_byte valid kind (suc n) few text x e = elim (chosen (is_closing_delimiter delimiter_byte text) _ _ (Some x) e) [
  | inl h ↦ subst (IsBody delimiter_byte valid few text) (some_is _ x h.1)
      (record { spelled = begins_three delimiter_byte text kind.above h.0; fine = tt; runs = tt; folds = tt })
  | inr h ↦ elim (chosen (eqb (first text) delimiter_byte) _ _ (Some x) h.1) [
    | inl i ↦ more_delimiters few i.1 (first_is delimiter_byte text kind.above i.0)
        (λ less y f. body_sound delimiter_byte valid kind n less (drop 1 text) y f)
    | inr i ↦
        let a = bind_some (line_piece_at delimiter_byte text) _ x i.1 in
        let b = bind_some (body_at delimiter_byte n 2 a.0.1) _ x a.2 in
        let one = kind.sound text a.0 a.1 in
        let others = body_sound delimiter_byte valid kind n 2 a.0.1 b.0 b.1 in
        let rest = three delimiter_byte b.0.1 in
        subst (IsBody delimiter_byte valid few text) (some_is (a.0.0 ∷ b.0.0, b.0.1) x b.2) (record {
          spelled = one.spelled ∙ ap (piece delimiter_byte a.0.0) others.spelled;
          fine = (one.fine, others.fine);
          runs = runs_more few a.0.0 b.0.0 one.other others.runs;
          folds = folds_more delimiter_byte a.0.0 b.0.0 rest one.other
              (subst (FoldEnds a.0.0) others.spelled one.ends) others.folds;
        })
  ]
]
  where
    more_delimiters : (few : ℕ) → delimiter_at (body_at delimiter_byte n) few text ≡ Some x → text ≡ delimiter_byte ∷ drop 1 text
        → ((less : ℕ) (y : List Piece × List ℕ) → body_at delimiter_byte n less (drop 1 text) ≡ Some y
        → IsBody delimiter_byte valid less (drop 1 text) y) → IsBody delimiter_byte valid few text x
    more_delimiters zero e here others = absurd cc
    more_delimiters (suc less) e here others =
        let b = bind_some (body_at delimiter_byte n less (drop 1 text)) _ x e in
        let h = others less b.0 b.1 in
        subst (IsBody delimiter_byte valid (suc less) text) (some_is (delimiter ∷ b.0.0, b.0.1) x b.2)
        (record {
          spelled = here ∙ ap (λ (r : List ℕ). delimiter_byte ∷ r) h.spelled;
          fine = (kind.delimits, h.fine);
          runs = h.runs;
          folds = h.folds;
        })

basic_kind : IsKind quote IsMultiPiece
unfolding line_piece_at
basic_kind = record { above = omega arith; sound = multi_piece_sound; delimits = tt }

literal_kind : IsKind apostrophe IsRawPiece
unfolding line_piece_at
literal_kind = record { above = omega arith; sound = raw_sound; delimits = tt }

pub multi_basic_sound : (text : List ℕ) (x : List Piece × List ℕ) → multi_at quote text ≡ Some x
    → IsBody quote IsMultiPiece 2 text x
unfolding multi_at
multi_basic_sound text x e = body_sound quote IsMultiPiece basic_kind (length text) 2 text x e

pub multi_literal_sound : (text : List ℕ) (x : List Piece × List ℕ) → multi_at apostrophe text ≡ Some x
    → IsBody apostrophe IsRawPiece 2 text x
unfolding multi_at
multi_literal_sound text x e = body_sound apostrophe IsRawPiece literal_kind (length text) 2 text x e
