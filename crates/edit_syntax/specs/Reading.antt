-- A parser, as definitions: each gives a part of the grammar and the rest of the input, or nothing. The
-- contracts of private functions cite them; proofs/ relates them to the grammar.
use Rattle.std.specs.Prelude.{ℕ, zero, suc, ◌+◌, Bool, true, false, ◌&&◌, ◌||◌, ◌==◌, if◌then◌else◌, List, length, drop, slice_index, Option, Some, None}
use Rattle.edit_syntax.specs.Characters.{line_feed, carriage_return, quote, hash, apostrophe, comma, equals, left_bracket, right_bracket, left_brace, right_brace, is_comment_byte}
use Rattle.edit_syntax.specs.Strings.{Key}
use Rattle.edit_syntax.specs.Grammar.{Value, basic, literal, multi_basic, multi_literal, boolean, array, inline, Elements, no_elements, last_element, element, Members, no_members, last_member, member, Statement, pair, header, element_header, Line, empty_line, full_line, Lines, one_line, more_lines, Text}
use Rattle.edit_syntax.specs.ReadingNumbers.{begins, number_at}
pub use Rattle.edit_syntax.specs.ReadingSteps.{Read, ◌>>=◌, first, front, after, blanks, past_blanks, past}
unfoldable pub use Rattle.edit_syntax.specs.ReadingTexts.{line_end_at, between_at, and_more, gap_at, gap_front, past_gap, scalar, scalar_escape_at, escape_at, piece_at, pieces_at, basic_at, literal_at, begins_space, space_at, spaces_at, fold_at, is_line_break, text_newline_at, basic_piece_at, literal_piece_at, line_piece_at, is_closing_delimiter, delimiter_at, body_at, multi_at, part_at, dotted_at, key_at}

-- ---- values

-- the input begins with these four bytes
abbrev pub starts : ℕ → ℕ → ℕ → ℕ → List ℕ → Bool
starts a b c d text =
    first text == a && slice_index text 1 == b && slice_index text 2 == c && slice_index text 3 == d

-- a value that is a single token
unfoldable pub scalar_at : List ℕ → Read Value
scalar_at text =
    if begins quote quote quote text then (multi_at quote (drop 3 text) >>= λ p. Some (multi_basic p.0, p.1))
    else (if begins apostrophe apostrophe apostrophe text
    then (multi_at apostrophe (drop 3 text) >>= λ p. Some (multi_literal p.0, p.1))
    else (if first text == quote then (basic_at (drop 1 text) >>= λ p. Some (basic p.0, p.1))
    else (if first text == apostrophe then (literal_at (drop 1 text) >>= λ p. Some (literal p.0, p.1))
    else (if starts 116 114 117 101 text then Some (boolean true, drop 4 text)
    else (if starts 102 97 108 115 text && slice_index text 4 == 101 then Some (boolean false, drop 5 text)
    else number_at text)))))

-- a pair: a key, an equals sign and a value, with the white space around the sign
pub record Pair : Type 0 where
  pub key : Key
  pub before : List ℕ
  pub behind : List ℕ
  pub value : Value

-- the pair at the front, whose value is parsed by the given parser
unfoldable pub pair_at : (List ℕ → Read Value) → List ℕ → Read Pair
pair_at value_at text = do
  k ← key_at text
  rest ← past equals (past_blanks k.1)
  v ← value_at (past_blanks rest)
  Some (record { key = k.0; before = blanks k.1; behind = blanks rest; value = v.0 }, v.1)

-- the members at the front, fewer than n, up to and with the closing brace
unfoldable pub members_at : (List ℕ → Read Value) → ℕ → List ℕ → Read Members
members_at value_at zero text = None
members_at value_at (suc n) text =
    if first text == right_brace then Some (no_members, drop 1 text)
    else (pair_at value_at text >>= λ p.
    if first (past_gap p.1) == comma
    then (members_at value_at n (past_gap (drop 1 (past_gap p.1)))
    >>= λ ms. Some (
      member p.0.key p.0.before p.0.behind p.0.value (gap_front p.1)
          (gap_front (drop 1 (past_gap p.1))) ms.0,
      ms.1,
    ))
    else (past right_brace (past_gap p.1)
    >>= λ rest. Some (last_member p.0.key p.0.before p.0.behind p.0.value (gap_front p.1), rest)))

-- the elements at the front, fewer than n, up to and with the closing bracket
unfoldable pub elements_at : (List ℕ → Read Value) → ℕ → List ℕ → Read Elements
elements_at value_at zero text = None
elements_at value_at (suc n) text =
    if first text == right_bracket then Some (no_elements, drop 1 text)
    else (value_at text >>= λ v.
    if first (past_gap v.1) == comma
    then (elements_at value_at n (past_gap (drop 1 (past_gap v.1)))
    >>= λ es. Some (element v.0 (gap_front v.1) (gap_front (drop 1 (past_gap v.1))) es.0, es.1))
    else (past right_bracket (past_gap v.1) >>= λ rest. Some (last_element v.0 (gap_front v.1), rest)))

-- a value whose arrays and inline tables nest at most n deep
unfoldable pub value_at : ℕ → List ℕ → Read Value
value_at zero text = scalar_at text
value_at (suc n) text =
    if first text == left_bracket
    then (elements_at (value_at n) (length text) (past_gap (drop 1 text))
    >>= λ es. Some (array (gap_front (drop 1 text)) es.0, es.1))
    else (if first text == left_brace
    then (members_at (value_at n) (length text) (past_gap (drop 1 text))
    >>= λ ms. Some (inline (gap_front (drop 1 text)) ms.0, ms.1))
    else scalar_at text)

-- ---- lines

-- a header `[key]`; the input begins with its bracket
unfoldable pub header_at : List ℕ → Read Statement
header_at text = key_at (past_blanks (drop 1 text)) >>= λ k. past right_bracket (past_blanks k.1)
    >>= λ rest. Some (header (blanks (drop 1 text)) k.0 (blanks k.1), rest)

-- a header `[[key]]`; the input begins with its brackets
unfoldable pub element_header_at : List ℕ → Read Statement
element_header_at text = key_at (past_blanks (drop 2 text)) >>= λ k. past right_bracket (past_blanks k.1)
    >>= λ inner. past right_bracket inner
    >>= λ rest. Some (element_header (blanks (drop 2 text)) k.0 (blanks k.1), rest)

-- a header `[key]`, a header `[[key]]` or a pair
unfoldable pub statement_at : ℕ → List ℕ → Read Statement
statement_at depth text =
    if first text == left_bracket
    then (if slice_index text 1 == left_bracket then element_header_at text else header_at text)
    else (pair_at (value_at depth) text >>= λ p. Some (pair p.0.key p.0.before p.0.behind p.0.value, p.1))

-- the optional comment at the front
abbrev pub comment_front : List ℕ → Option (List ℕ)
comment_front text = if first text == hash then Some (front is_comment_byte (drop 1 text)) else None

-- the rest behind an optional comment
abbrev pub past_comment : List ℕ → List ℕ
past_comment text = if first text == hash then after is_comment_byte (drop 1 text) else text

-- the byte ends a line without a statement: the end of the text, a comment or a newline begins here
abbrev pub is_line_over : ℕ → Bool
is_line_over b = b == 0 || b == hash || b == line_feed || b == carriage_return

-- a line up to its newline
unfoldable pub line_at : ℕ → List ℕ → Read Line
line_at depth text =
    if is_line_over (first (past_blanks text))
    then Some (empty_line (blanks text) (comment_front (past_blanks text)), past_comment (past_blanks text))
    else (statement_at depth (past_blanks text)
    >>= λ s. Some (
      full_line (blanks text) s.0 (blanks s.1)
          (comment_front (past_blanks s.1)),
      past_comment (past_blanks s.1),
    ))

-- all lines of a text, at most n
unfoldable pub lines_at : ℕ → ℕ → List ℕ → Option Lines
lines_at depth zero text = None
lines_at depth (suc n) text = line_at depth text >>= λ l.
    if length l.1 == 0 then Some (one_line l.0)
    else (line_end_at l.1 >>= λ e. lines_at depth n e.1 >>= λ ls. Some (more_lines l.0 e.0 ls))

-- the text begins with a byte order mark
abbrev pub begins_with_byte_order_mark : List ℕ → Bool
begins_with_byte_order_mark text =
    first text == 0xEF && slice_index text 1 == 0xBB && slice_index text 2 == 0xBF

-- the text without a byte order mark at its start
abbrev pub skip_byte_order_mark : List ℕ → List ℕ
skip_byte_order_mark text = if begins_with_byte_order_mark text then drop 3 text else text

-- a text whose arrays and inline tables nest at most the given depth
unfoldable pub read_text : ℕ → List ℕ → Option Text
read_text depth text = lines_at depth (length (skip_byte_order_mark text) + 1) (skip_byte_order_mark text)
    >>= λ ls. Some (record { has_byte_order_mark = begins_with_byte_order_mark text; lines = ls })
