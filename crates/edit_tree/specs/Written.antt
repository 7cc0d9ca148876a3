-- The values of a text, each with its place and the text behind it.
use Rattle.std.specs.Prelude.{◌≡◌, ℕ, suc, ◌-◌, List, [], ◌∷◌, ◌++◌, length}
use Rattle.std.specs.List.{Contains}
use Rattle.edit_syntax.specs.Characters.{comma, right_bracket, right_brace}
use Rattle.edit_syntax.specs.Strings.{◌·◌, line_end}
use Rattle.edit_syntax.specs.Grammar.{gap, Value, basic, literal, multi_basic, multi_literal, boolean, integer, float, datetime, array, inline, value, Elements, no_elements, last_element, element, elements, Members, no_members, last_member, member, members, Statement, pair, header, element_header, empty_line, full_line, comment, Lines, one_line, more_lines, lines, Text, text}
use Rattle.edit_tree.specs.Assertions.{Place, index, at, names, named, Assertion, of_statement, prefix_after}

-- a value at a place, and the text behind it
pub record PlacedValue : Type 0 where
  pub place : Place
  pub value : Value
  pub after : List ℕ

-- a value at a place, with the text that follows it
abbrev pub placed_value : Place → Value → List ℕ → PlacedValue
placed_value place v after = record { place = place; value = v; after = after }

-- the values inside a value, an outer one before those inside it
abbrev mutual
  -- the values inside an array or an inline table
  pub inside : Place → Value → List ℕ → List PlacedValue
  inside place (basic ps) after = []
  inside place (literal text) after = []
  inside place (multi_basic ps) after = []
  inside place (multi_literal ps) after = []
  inside place (boolean b) after = []
  inside place (integer n) after = []
  inside place (float f) after = []
  inside place (datetime d) after = []
  inside place (array g es) after = in_elements place 0 es (right_bracket ∷ after)
  inside place (inline g ms) after = in_members place ms (right_brace ∷ after)

  -- each element of an array from an index on, and the values inside it
  pub in_elements : Place → ℕ → Elements → List ℕ → List PlacedValue
  in_elements place i no_elements rest = []
  in_elements place i (last_element v g) rest =
      placed_value (at place (index i)) v (gap g rest) ∷ inside (at place (index i)) v (gap g rest)
  in_elements place i (element v g h es) rest =
      placed_value (at place (index i)) v (gap g (comma ∷ gap h (elements es rest)))
      ∷ (inside (at place (index i)) v (gap g (comma ∷ gap h (elements es rest)))
      ++ in_elements place (suc i) es rest)

  -- the value of each member, and the values inside it
  pub in_members : Place → Members → List ℕ → List PlacedValue
  in_members place no_members rest = []
  in_members place (last_member k a b v c) rest =
      placed_value (named place (names k)) v (gap c rest) ∷ inside (named place (names k)) v (gap c rest)
  in_members place (member k a b v c d ms) rest =
      placed_value (named place (names k)) v (gap c (comma ∷ gap d (members ms rest)))
      ∷ (inside (named place (names k)) v (gap c (comma ∷ gap d (members ms rest)))
      ++ in_members place ms rest)

-- the values of a statement below a header
abbrev pub in_statement : Place → Statement → List ℕ → List PlacedValue
in_statement prefix (pair k a b v) after =
    placed_value (named prefix (names k)) v after ∷ inside (named prefix (names k)) v after
in_statement prefix (header a k b) after = []
in_statement prefix (element_header a k b) after = []

-- the values of lines, after these assertions and below this header
abbrev pub in_lines : List Assertion → Place → Lines → List PlacedValue
in_lines earlier prefix (one_line (empty_line a c)) = []
in_lines earlier prefix (one_line (full_line a s b c)) = in_statement prefix s (b · comment c [])
in_lines earlier prefix (more_lines (empty_line a c) e ls) = in_lines earlier prefix ls
in_lines earlier prefix (more_lines (full_line a s b c) e ls) =
    in_statement prefix s (b · comment c (line_end e (lines ls)))
    ++ in_lines (earlier ++ of_statement earlier prefix s) (prefix_after earlier prefix s) ls

-- the values of a text, in order
abbrev pub values : Text → List PlacedValue
values t = in_lines [] [] t.lines

-- the offset of the start of a value in a text of this length
abbrev pub start_of : ℕ → PlacedValue → ℕ
start_of total w = total - length (value w.value w.after)

-- the offset of the end of a value in a text of this length
abbrev pub end_of : ℕ → PlacedValue → ℕ
end_of total w = total - length w.after

-- the value at a place is written from one offset to another
pub record IsWrittenAt (t : Text) (place : Place) (start end : ℕ) : Type 0 where
  pub placed_value : PlacedValue
  pub listed : Contains (values t) placed_value
  pub there : placed_value.place ≡ place
  pub starts : start ≡ start_of (length (text t)) placed_value
  pub ends : end ≡ end_of (length (text t)) placed_value
