-- The nesting depth of arrays and inline tables.
use Rattle.std.specs.Prelude.{ℕ, suc, max}
use Rattle.edit_syntax.specs.Grammar.{Value, basic, literal, multi_basic, multi_literal, boolean, integer, float, datetime, array, inline, Elements, no_elements, last_element, element, Members, no_members, last_member, member, Statement, pair, header, element_header, Line, empty_line, full_line, Lines, one_line, more_lines, Text}

-- depth 0 is no array and no inline table, depth 1 an array or inline table without another inside
abbrev mutual
  -- the depth of a value
  pub depth : Value → ℕ
  depth (basic ps) = 0
  depth (literal text) = 0
  depth (multi_basic ps) = 0
  depth (multi_literal ps) = 0
  depth (boolean b) = 0
  depth (integer n) = 0
  depth (float f) = 0
  depth (datetime d) = 0
  depth (array g es) = suc (elements_depth es)
  depth (inline g ms) = suc (members_depth ms)

  -- the depth of the deepest element
  pub elements_depth : Elements → ℕ
  elements_depth no_elements = 0
  elements_depth (last_element v g) = depth v
  elements_depth (element v g h es) = max (depth v) (elements_depth es)

  -- the depth of the deepest value of a member
  pub members_depth : Members → ℕ
  members_depth no_members = 0
  members_depth (last_member k a b v c) = depth v
  members_depth (member k a b v c d ms) = max (depth v) (members_depth ms)

-- the depth of the value of a pair; 0 for a header
abbrev pub statement_depth : Statement → ℕ
statement_depth (pair k a b v) = depth v
statement_depth (header a k b) = 0
statement_depth (element_header a k b) = 0

-- the depth of the statement on a line; 0 without one
abbrev pub line_depth : Line → ℕ
line_depth (empty_line a c) = 0
line_depth (full_line a s b c) = statement_depth s

-- the depth of the deepest line
abbrev pub lines_depth : Lines → ℕ
lines_depth (one_line l) = line_depth l
lines_depth (more_lines l e ls) = max (line_depth l) (lines_depth ls)

-- the depth of the deepest value in a text
abbrev pub text_depth : Text → ℕ
text_depth t = lines_depth t.lines
