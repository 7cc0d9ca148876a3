-- The decoded values of strings, by the pieces of a multi-line basic string.
use Rattle.std.proofs.Common.{◌≡◌, ℕ, true, false, eqb, List, [], ◌∷◌, drop, get_or, refl, sym, ap, ◌∙◌, arith}
use Rattle.std.specs.List.{AllByRecursion}
use Rattle.std.specs.Str.{IsUtf8, IsCharBoundary}
use Rattle.std.proofs.lemmas.Bool.Decides.{nat_tests}
use Rattle.std.proofs.lemmas.Str.{IsCharBoundary-after_ascii}
use Rattle.edit_syntax.specs.Characters.{apostrophe, is_basic_ch, is_literal_ch}
use Rattle.edit_syntax.specs.Strings.{lf, crlf, Piece, plain, letter, short, long, feed, fold, delimiter, pieces, IsRawPiece, decoded_piece, decoded_pieces, decoded_multi}
use Rattle.edit_syntax.specs.Decoding.{HasBasicValue, HasLineValue, HasRawValue, past_break}
use Rattle.edit_syntax.specs.Reading.{first}
use Rattle.edit_syntax.proofs.TokenLaws.{AreBasic}
use Rattle.edit_syntax.proofs.EscapeRuns.{AreLine}

basic_folds : (ps : List Piece) → AreBasic ps → AreLine ps
basic_folds [] h = record { all = tt; folds = tt }
basic_folds (plain b ∷ ps) h = let more = basic_folds ps h.1 in
    record { all = (h.0, more.all); folds = more.folds }
basic_folds (letter c ∷ ps) h = let more = basic_folds ps h.1 in
    record { all = (h.0, more.all); folds = more.folds }
basic_folds (short digits ∷ ps) h = let more = basic_folds ps h.1 in
    record { all = (h.0, more.all); folds = more.folds }
basic_folds (long digits ∷ ps) h = let more = basic_folds ps h.1 in
    record { all = (h.0, more.all); folds = more.folds }
basic_folds (feed e ∷ ps) h = absurd h.0
basic_folds (fold ws e more ∷ ps) h = absurd h.0
basic_folds (delimiter ∷ ps) h = absurd h.0

pub basic_line : (content said : List ℕ) → HasBasicValue content said → HasLineValue content said
basic_line content said h = let l = basic_folds h.0 h.1 in (h.0, l.all, l.folds, h.2, h.3)

basic_no_break : (b : ℕ) → is_basic_ch b ≡ true → (eqb b 10 ≡ false) × (eqb b 13 ≡ false)
basic_no_break b h = (grind (arith, nat_tests), grind (arith, nat_tests))

literal_no_break : (b : ℕ) → is_literal_ch b ≡ true → (eqb b 10 ≡ false) × (eqb b 13 ≡ false)
literal_no_break b h = (grind (arith, nat_tests), grind (arith, nat_tests))

raw_says : (ps : List Piece) → AllByRecursion IsRawPiece ps
    → decoded_pieces apostrophe ps ≡ pieces apostrophe ps []
raw_says [] h = refl
raw_says (plain b ∷ ps) h = ap (λ (r : List ℕ). b ∷ r) (raw_says ps h.1)
raw_says (letter c ∷ ps) h = absurd h.0
raw_says (short digits ∷ ps) h = absurd h.0
raw_says (long digits ∷ ps) h = absurd h.0
raw_says (feed lf ∷ ps) h = ap (λ (r : List ℕ). 10 ∷ r) (raw_says ps h.1)
raw_says (feed crlf ∷ ps) h = ap (λ (r : List ℕ). 13 ∷ (10 ∷ r)) (raw_says ps h.1)
raw_says (fold ws e more ∷ ps) h = absurd h.0
raw_says (delimiter ∷ ps) h = ap (λ (r : List ℕ). apostrophe ∷ r) (raw_says ps h.1)

pub raw_content : (content said : List ℕ) → HasRawValue content said → past_break content ≡ said
raw_content content said (ps, all, spelled, says) = ap past_break spelled ∙ go ps all ∙ sym says
  where
    go : (qs : List Piece) → AllByRecursion IsRawPiece qs
        → past_break (pieces apostrophe qs []) ≡ decoded_multi apostrophe qs
    go [] all = refl
    go (plain b ∷ qs) all = let k = literal_no_break b all.0 in
        rw (k.0, k.1) (sym (raw_says (plain b ∷ qs) all))
    go (letter c ∷ qs) all = absurd all.0
    go (short digits ∷ qs) all = absurd all.0
    go (long digits ∷ qs) all = absurd all.0
    go (feed lf ∷ qs) all = sym (raw_says qs all.1)
    go (feed crlf ∷ qs) all = sym (raw_says qs all.1)
    go (fold ws end more ∷ qs) all = absurd all.0
    go (delimiter ∷ qs) all = sym (raw_says (delimiter ∷ qs) all)

-- where a text is cut behind a newline that comes first
pub break_one : (text : List ℕ) → IsUtf8 text → first text ≡ 10 → IsCharBoundary text 1
    × (past_break text ≡ drop 1 text)
break_one [] u e = absurd (omega arith)
break_one (b ∷ text) u e = (IsCharBoundary-after_ascii (b ∷ text) 0 u (omega arith) (omega arith), rw e refl)

pub break_two : (text : List ℕ) → IsUtf8 text → first text ≡ 13 → get_or text 1 0 ≡ 10 → IsCharBoundary text 2
    × (past_break text ≡ drop 2 text)
break_two [] u e f = absurd (omega arith)
break_two (b ∷ []) u e f = absurd (omega arith)
break_two (b ∷ c ∷ text) u e f =
    (IsCharBoundary-after_ascii (b ∷ (c ∷ text)) 1 u (omega arith) (omega arith), rw (e, f) refl)
