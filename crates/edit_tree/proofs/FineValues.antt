-- Each value of a well-formed text is well formed.
use Rattle.std.proofs.Common.{ℕ, suc, List, [], ◌∷◌, ◌++◌}
use Rattle.std.specs.List.{AllByRecursion}
use Rattle.edit_syntax.specs.Characters.{right_bracket, right_brace}
use Rattle.edit_syntax.specs.Grammar.{Value, basic, literal, multi_basic, multi_literal, boolean, integer, float, datetime, array, inline, IsValue, Elements, no_elements, last_element, element, AreElements, Members, no_members, last_member, member, AreMembers, Statement, pair, header, element_header, IsStatement, empty_line, full_line, Lines, one_line, more_lines, AreLines}
use Rattle.edit_tree.specs.Assertions.{Place, index, at, names, named, Assertion, of_statement, prefix_after}
use Rattle.edit_tree.specs.Written.{PlacedValue, inside, in_elements, in_members, in_statement, in_lines}

abbrev AreFine : List PlacedValue → Type 0
AreFine ws = AllByRecursion (λ w. IsValue w.value) ws

fine_append : (xs ys : List PlacedValue) → AreFine xs → AreFine ys → AreFine (xs ++ ys)
fine_append [] ys h g = g
fine_append (x ∷ xs) ys h g = (h.0, fine_append xs ys h.1 g)

mutual
  fine_inside : (p : Place) (v : Value) (after : List ℕ) → IsValue v → AreFine (inside p v after)
  fine_inside p (basic ps) after h = tt
  fine_inside p (literal t) after h = tt
  fine_inside p (multi_basic ps) after h = tt
  fine_inside p (multi_literal ps) after h = tt
  fine_inside p (boolean b) after h = tt
  fine_inside p (integer n) after h = tt
  fine_inside p (float f) after h = tt
  fine_inside p (datetime d) after h = tt
  fine_inside p (array g es) after h = fine_elements p 0 es (right_bracket ∷ after) h.1
  fine_inside p (inline g ms) after h = fine_members p ms (right_brace ∷ after) h.1

  fine_elements : (p : Place) (i : ℕ) (es : Elements) (rest : List ℕ) → AreElements es
      → AreFine (in_elements p i es rest)
  fine_elements p i no_elements rest h = tt
  fine_elements p i (last_element v g) rest h = (h.0, fine_inside (at p (index i)) v _ h.0)
  fine_elements p i (element v g x es) rest h =
      (h.0, fine_append _ _ (fine_inside (at p (index i)) v _ h.0) (fine_elements p (suc i) es rest h.3))

  fine_members : (p : Place) (ms : Members) (rest : List ℕ) → AreMembers ms → AreFine (in_members p ms rest)
  fine_members p no_members rest h = tt
  fine_members p (last_member k a b v c) rest h = (h.3, fine_inside (named p (names k)) v _ h.3)
  fine_members p (member k a b v c d ms) rest h =
      (h.3, fine_append _ _ (fine_inside (named p (names k)) v _ h.3) (fine_members p ms rest h.6))

fine_statement : (prefix : Place) (s : Statement) (after : List ℕ) → IsStatement s
    → AreFine (in_statement prefix s after)
fine_statement prefix (pair k a b v) after h = (h.3, fine_inside (named prefix (names k)) v after h.3)
fine_statement prefix (header a k b) after h = tt
fine_statement prefix (element_header a k b) after h = tt

pub values_fine : (earlier : List Assertion) (prefix : Place) (ls : Lines) → AreLines ls
    → AreFine (in_lines earlier prefix ls)
values_fine earlier prefix (one_line (empty_line a c)) h = tt
values_fine earlier prefix (one_line (full_line a s b c)) h = fine_statement prefix s _ h.1
values_fine earlier prefix (more_lines (empty_line a c) e ls) h = values_fine earlier prefix ls h.1
values_fine earlier prefix (more_lines (full_line a s b c) e ls) h =
    fine_append _ _ (fine_statement prefix s _ h.0.1)
    (values_fine (earlier ++ of_statement earlier prefix s) (prefix_after earlier prefix s) ls h.1)
