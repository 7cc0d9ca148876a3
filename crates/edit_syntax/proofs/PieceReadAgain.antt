-- Parsing the text of a piece of a multi-line string gives it back.
use Rattle.std.proofs.Common.{◌≡◌, ℕ, ◌+◌, ◌<◌, true, false, eqb, List, [], ◌∷◌, ◌++◌, length, Some, refl, arith}
use Rattle.std.proofs.lemmas.Bool.Decides.{nat_tests}
use Rattle.std.specs.List.{AllByRecursion}
use Rattle.edit_syntax.specs.Characters.{quote, apostrophe, backslash, is_blank, is_basic_ch, is_literal_ch, All}
use Rattle.edit_syntax.specs.Strings.{LineEnd, lf, crlf, line_end, Space, spaces, IsSpace, Piece, plain, letter, short, long, feed, fold, delimiter, piece, IsMultiPiece, IsRawPiece, is_escape}
use Rattle.edit_syntax.specs.Reading.{◌>>=◌, first, begins_space, fold_at, text_newline_at, is_line_break, escape_at, basic_piece_at, literal_piece_at, line_piece_at, is_closing_delimiter, delimiter_at, body_at, multi_at}
use Rattle.edit_syntax.specs.Reading as reading
use Rattle.edit_syntax.proofs.TokenLaws.{front_again, after_again, piece_again, basic_ch_not}
use Rattle.edit_syntax.proofs.MultiLaws.{IsOther, FoldEnds}
use Rattle.edit_syntax.proofs.FoldLaws.{line_end_again, line_end_first, spaces_again, count_spaces}

-- ---- one piece

pub basic_no_break : (b : ℕ) → is_basic_ch b ≡ true → is_line_break b ≡ false
basic_no_break b h = grind (arith, nat_tests)

pub literal_no_break : (b : ℕ) → is_literal_ch b ≡ true → is_line_break b ≡ false
literal_no_break b h = grind (arith, nat_tests)

escape_alone : (c : ℕ) → is_escape c ≡ true → (is_blank c ≡ false) × (is_line_break c ≡ false)
escape_alone c h = (grind (arith, nat_tests), grind (arith, nat_tests))

end_not_blank : (e : LineEnd) (rest : List ℕ) → is_blank (first (line_end e rest)) ≡ false
end_not_blank lf rest = refl
end_not_blank crlf rest = refl

feed_again : (e : LineEnd) (rest : List ℕ) → text_newline_at (line_end e rest) ≡ Some (feed e, rest)
unfolding text_newline_at
feed_again e rest = rw (line_end_again e rest) refl

fold_again : (ws : List ℕ) (e : LineEnd) (more : List Space) (rest : List ℕ) → All is_blank ws
    → AllByRecursion IsSpace more → begins_space rest ≡ false
    → fold_at (backslash ∷ (ws ++ line_end e (spaces more rest))) ≡ Some (fold ws e more, rest)
unfolding fold_at
fold_again ws e more rest hw hm ends =
    let tail = line_end e (spaces more rest) in
    let stops = end_not_blank e (spaces more rest) in
    let few : length more < length (spaces more rest) + 1 = let k = count_spaces more rest in omega arith in
    rw (
      after_again is_blank ws tail hw stops,
      front_again is_blank ws tail hw stops,
      line_end_again e (spaces more rest),
      spaces_again (length (spaces more rest) + 1) more rest hm ends few,
    )
    refl

pub escape_again : (p : Piece) (rest : List ℕ) → IsMultiPiece p → IsOther p → FoldEnds p rest
    → basic_piece_at (piece quote p rest) ≡ Some (p, rest)
unfolding basic_piece_at reading.piece_at
escape_again (plain b) rest h o ends = rw (basic_no_break b h, h, (basic_ch_not b h).1) refl
escape_again (letter c) rest h o ends =
    let a = escape_alone c h in
    rw (after_again is_blank [] (c ∷ rest) tt a.0, a.1) (piece_again (letter c) rest h)
escape_again (short digits) rest h o ends = piece_again (short digits) rest h
escape_again (long digits) rest h o ends = piece_again (long digits) rest h
escape_again (feed e) rest h o ends = rw (line_end_first e rest) (feed_again e rest)
escape_again (fold ws e more) rest h o ends =
    let tail = line_end e (spaces more rest) in
    rw (
      after_again is_blank ws tail h.0 (end_not_blank e (spaces more rest)),
      line_end_first e (spaces more rest),
    ) (fold_again ws e more rest h.0 h.1 ends)
escape_again delimiter rest h o ends = absurd o

pub raw_again : (p : Piece) (rest : List ℕ) → IsRawPiece p → IsOther p → FoldEnds p rest
    → literal_piece_at (piece apostrophe p rest) ≡ Some (p, rest)
unfolding literal_piece_at
raw_again (plain b) rest h o ends = rw (literal_no_break b h, h) refl
raw_again (letter c) rest h o ends = absurd h
raw_again (short digits) rest h o ends = absurd h
raw_again (long digits) rest h o ends = absurd h
raw_again (feed e) rest h o ends = rw (line_end_first e rest) (feed_again e rest)
raw_again (fold ws e more) rest h o ends = absurd h
raw_again delimiter rest h o ends = absurd o

pub literal_other : (b : ℕ) → is_literal_ch b ≡ true → eqb b apostrophe ≡ false
literal_other b h = grind (arith, nat_tests)

pub basic_first : (p : Piece) (rest : List ℕ) → IsMultiPiece p → IsOther p
    → eqb (first (piece quote p rest)) quote ≡ false
basic_first (plain b) rest h o = (basic_ch_not b h).0
basic_first (letter c) rest h o = refl
basic_first (short digits) rest h o = refl
basic_first (long digits) rest h o = refl
basic_first (feed lf) rest h o = refl
basic_first (feed crlf) rest h o = refl
basic_first (fold ws e more) rest h o = refl
basic_first delimiter rest h o = absurd o

pub raw_first : (p : Piece) (rest : List ℕ) → IsRawPiece p → IsOther p
    → eqb (first (piece apostrophe p rest)) apostrophe ≡ false
raw_first (plain b) rest h o = literal_other b h
raw_first (letter c) rest h o = absurd h
raw_first (short digits) rest h o = absurd h
raw_first (long digits) rest h o = absurd h
raw_first (feed lf) rest h o = refl
raw_first (feed crlf) rest h o = refl
raw_first (fold ws e more) rest h o = absurd h
raw_first delimiter rest h o = absurd o
