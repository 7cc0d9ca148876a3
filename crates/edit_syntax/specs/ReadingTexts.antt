-- A parser of gaps, strings and keys, as definitions.
use Rattle.std.specs.Prelude.{ℕ, zero, suc, ◌+◌, Bool, not, ◌&&◌, ◌||◌, ◌==◌, if◌then◌else◌, List, [], ◌∷◌, length, take, drop, slice_index, Option, Some, None}
use Rattle.std.specs.List.{list_all}
use Rattle.std.specs.Str.Parse.{digits_value}
use Rattle.edit_syntax.specs.Characters.{line_feed, carriage_return, quote, hash, apostrophe, backslash, is_blank, is_comment_byte, is_bare, is_literal_ch, is_basic_ch}
use Rattle.edit_syntax.specs.Strings.{LineEnd, lf, crlf, Space, Piece, plain, letter, short, long, feed, fold, delimiter, is_escape, is_hex, is_scalar, Part, bare, basic_part, literal_part, Dotted, Key}
use Rattle.edit_syntax.specs.Strings as strings
use Rattle.edit_syntax.specs.Grammar.{Between, blank, break, remark}
use Rattle.edit_syntax.specs.ReadingNumbers.{begins}
use Rattle.edit_syntax.specs.ReadingSteps.{Read, ◌>>=◌, first, front, after, blanks, past_blanks, past}

-- a newline
unfoldable pub line_end_at : List ℕ → Read LineEnd
line_end_at text =
    if first text == line_feed then Some (lf, drop 1 text)
    else (if first text == carriage_return && slice_index text 1 == line_feed
    then Some (crlf, drop 2 text) else None)

-- a tab or a space, a newline, or a comment and its newline
unfoldable pub between_at : List ℕ → Read Between
between_at text =
    if is_blank (first text) then Some (blank (first text), drop 1 text)
    else (if first text == hash
    then (line_end_at (after is_comment_byte (drop 1 text))
    >>= λ e. Some (remark (front is_comment_byte (drop 1 text)) e.0, e.1))
    else (line_end_at text >>= λ e. Some (break e.0, e.1)))

-- what was parsed, and what the given parser finds behind it
abbrev pub and_more : (List ℕ → List Between × List ℕ) → List ℕ → Read Between → List Between × List ℕ
and_more more text None = ([], text)
and_more more text (Some x) = (x.0 ∷ (more x.1).0, (more x.1).1)

-- the longest gap of at most n parts, and the rest behind it
unfoldable pub gap_at : ℕ → List ℕ → List Between × List ℕ
gap_at zero text = ([], text)
gap_at (suc n) text = and_more (gap_at n) text (between_at text)

-- the gap at the front: white space, newlines and comments
abbrev pub gap_front : List ℕ → List Between
gap_front text = (gap_at (length text) text).0

-- the rest behind the gap at the front
abbrev pub past_gap : List ℕ → List ℕ
past_gap text = (gap_at (length text) text).1

-- ---- strings

-- the Unicode scalar value with these hexadecimal digits
abbrev pub scalar : List ℕ → Option ℕ
scalar digits = if list_all is_hex digits && is_scalar (digits_value 16 digits)
    then Some (digits_value 16 digits) else None

-- n hexadecimal digits of a Unicode scalar value
unfoldable pub scalar_escape_at : (List ℕ → Piece) → ℕ → List ℕ → Read Piece
scalar_escape_at made n text = if length (take n text) == n
    then (scalar (take n text) >>= λ c. Some (made (take n text), drop n text)) else None

-- an escape; the input begins with its backslash
unfoldable pub escape_at : List ℕ → Read Piece
escape_at text =
    if is_escape (slice_index text 1) then Some (letter (slice_index text 1), drop 2 text)
    else (if slice_index text 1 == 117 then scalar_escape_at short 4 (drop 2 text)
    else (if slice_index text 1 == 85 then scalar_escape_at long 8 (drop 2 text) else None))

-- an escape, or a byte that needs none
unfoldable pub piece_at : List ℕ → Read Piece
piece_at text =
    if first text == backslash then escape_at text
    else (if is_basic_ch (first text) then Some (plain (first text), drop 1 text) else None)

-- the pieces of a basic string, fewer than n, up to and with the closing quote
unfoldable pub pieces_at : ℕ → List ℕ → Read (List Piece)
pieces_at zero text = None
pieces_at (suc n) text =
    if first text == quote then Some ([], drop 1 text)
    else (piece_at text >>= λ p. pieces_at n p.1 >>= λ ps. Some (p.0 ∷ ps.0, ps.1))

-- the pieces of a basic string; the input begins behind the opening quote
unfoldable pub basic_at : List ℕ → Read (List Piece)
basic_at text = pieces_at (length text) text

-- the content of a literal string; the input begins behind the opening apostrophe
unfoldable pub literal_at : List ℕ → Read (List ℕ)
literal_at text =
    past apostrophe (after is_literal_ch text) >>= λ rest. Some (front is_literal_ch text, rest)

-- ---- multi-line strings ("String", multi-line strings)

-- the input begins with a tab, a space or a newline (own)
abbrev pub begins_space : List ℕ → Bool
begins_space text = is_blank (first text) || first text == line_feed
    || (first text == carriage_return && slice_index text 1 == line_feed)

-- a tab, a space or a newline
unfoldable pub space_at : List ℕ → Read Space
space_at text =
    if is_blank (first text) then Some (strings.blank (first text), drop 1 text)
    else (line_end_at text >>= λ e. Some (strings.break e.0, e.1))

-- all tabs, spaces and newlines at the front, fewer than n
unfoldable pub spaces_at : ℕ → List ℕ → Read (List Space)
spaces_at zero text = None
spaces_at (suc n) text =
    if begins_space text
    then (space_at text >>= λ s. spaces_at n s.1 >>= λ more. Some (s.0 ∷ more.0, more.1))
    else Some ([], text)

-- a line fold: a backslash at the end of a line, and all white space and newlines after it
unfoldable pub fold_at : List ℕ → Read Piece
fold_at text = line_end_at (past_blanks (drop 1 text)) >>= λ e. spaces_at (length e.1 + 1) e.1
    >>= λ more. Some (fold (blanks (drop 1 text)) e.0 more.0, more.1)

-- LF or CR, with which a newline may begin (own)
abbrev pub is_line_break : ℕ → Bool
is_line_break b = b == line_feed || b == carriage_return

-- a newline that is part of a string
unfoldable pub text_newline_at : List ℕ → Read Piece
text_newline_at text = line_end_at text >>= λ e. Some (feed e.0, e.1)

-- a piece of a multi-line basic string that is no quote: a newline, an escape, a line fold, or a byte that
-- needs no escape
unfoldable pub basic_piece_at : List ℕ → Read Piece
basic_piece_at text =
    if is_line_break (first text) then text_newline_at text
    else (if first text == backslash
    then (if is_line_break (first (past_blanks (drop 1 text))) then fold_at text else escape_at text)
    else (if is_basic_ch (first text) then Some (plain (first text), drop 1 text) else None))

-- a piece of a multi-line literal string that is no apostrophe: a newline, or another byte
unfoldable pub literal_piece_at : List ℕ → Read Piece
literal_piece_at text =
    if is_line_break (first text) then text_newline_at text
    else (if is_literal_ch (first text) then Some (plain (first text), drop 1 text) else None)

-- a piece of a multi-line string that is not its delimiter
unfoldable pub line_piece_at : ℕ → List ℕ → Read Piece
line_piece_at delimiter_byte text =
    if delimiter_byte == quote then basic_piece_at text else literal_piece_at text

-- the input begins with exactly three delimiters, which close the string; up to two more may precede these
abbrev pub is_closing_delimiter : ℕ → List ℕ → Bool
is_closing_delimiter delimiter_byte text =
    begins delimiter_byte delimiter_byte delimiter_byte text && not (slice_index text 3 == delimiter_byte)

-- a delimiter that is part of the string, where one more is allowed
abbrev pub delimiter_at : (ℕ → List ℕ → Read (List Piece)) → ℕ → List ℕ → Read (List Piece)
delimiter_at body zero text = None
delimiter_at body (suc few) text = body few (drop 1 text) >>= λ ps. Some (delimiter ∷ ps.0, ps.1)

-- the pieces of a multi-line string, fewer than n, up to and with the closing delimiter; at most `few`
-- delimiters may come first
unfoldable pub body_at : ℕ → ℕ → ℕ → List ℕ → Read (List Piece)
body_at delimiter_byte zero few text = None
body_at delimiter_byte (suc n) few text =
    if is_closing_delimiter delimiter_byte text then Some ([], drop 3 text)
    else (if first text == delimiter_byte then delimiter_at (body_at delimiter_byte n) few text
    else (line_piece_at delimiter_byte text >>= λ p. body_at delimiter_byte n 2 p.1
    >>= λ ps. Some (p.0 ∷ ps.0, ps.1)))

-- the pieces of a multi-line string; the input begins behind the opening delimiter
unfoldable pub multi_at : ℕ → List ℕ → Read (List Piece)
multi_at delimiter_byte text = body_at delimiter_byte (length text) 2 text

-- ---- keys

-- a part of a key
unfoldable pub part_at : List ℕ → Read Part
part_at text =
    if first text == quote then (basic_at (drop 1 text) >>= λ p. Some (basic_part p.0, p.1))
    else (if first text == apostrophe then (literal_at (drop 1 text) >>= λ p. Some (literal_part p.0, p.1))
    else (if is_bare (first text) then Some (bare (front is_bare text), after is_bare text) else None))

-- the parts of a key that follow a dot, fewer than n
unfoldable pub dotted_at : ℕ → List ℕ → Read (List Dotted)
dotted_at zero text = None
dotted_at (suc n) text =
    if first (past_blanks text) == 46
    then (part_at (past_blanks (drop 1 (past_blanks text))) >>= λ p. dotted_at n p.1
    >>= λ ds. Some (
      record {
        before = blanks text;
        behind = blanks
            (drop 1 (past_blanks text));
        part = p.0;
      } ∷ ds.0,
      ds.1,
    ))
    else Some ([], text)

-- a key
unfoldable pub key_at : List ℕ → Read Key
key_at text = part_at text >>= λ k. dotted_at (length text) k.1
    >>= λ ds. Some (record { first = k.0; others = ds.0 }, ds.1)
