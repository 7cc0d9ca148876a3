-- The positions of the values of a text, and their depths.
use Rattle.std.proofs.Common.{ℕ, suc, ◌≤◌, List, [], ◌∷◌, ◌++◌, arith}
use Rattle.std.specs.Prelude.{IsUtf8}
use Rattle.std.specs.List.{AllByRecursion}
use Rattle.edit_syntax.specs.Characters.{comma, left_bracket, right_bracket, left_brace, right_brace}
use Rattle.edit_syntax.specs.Strings.{line_end}
use Rattle.edit_syntax.specs.Depth.{depth, elements_depth, members_depth, statement_depth, lines_depth}
use Rattle.edit_syntax.specs.Grammar.{gap, Value, basic, literal, multi_basic, multi_literal, boolean, integer, float, datetime, array, inline, value, IsValue, Elements, no_elements, last_element, element, elements, Members, no_members, last_member, member, members, Statement, pair, header, element_header, statement, empty_line, full_line, Lines, one_line, more_lines, lines, Text}
use Rattle.edit_syntax.proofs.Members.{Among, among_all}
use Rattle.edit_tree.specs.Assertions.{Place, index, at, names, named, Assertion, of_statement, prefix_after, IsDocument}
use Rattle.edit_rewrite.specs.PairOffsets.{StandsIn}
use Rattle.edit_tree.specs.Written.{PlacedValue, inside, in_elements, in_members, in_statement, in_lines, values}
use Rattle.edit_document.proofs.Documents.{read_of, ends_all}
use Rattle.edit_tree.proofs.Shallow.{shallow}
use Rattle.edit_tree.proofs.FineValues.{values_fine}
use Rattle.edit_tree.proofs.Ends.{Ends, ends_past, ends_one, ends_pair, ends_gap, ends_value, ends_line, ends_line_end}

-- a value where it stands, at most 80 deep
record Here (bytes : List ℕ) (w : PlacedValue) : Type 0 where
  shallow : depth w.value ≤ 80
  ends : Ends bytes (value w.value w.after)

module _ (bytes : List ℕ) where
  abbrev AllStand : List PlacedValue → Type 0
  AllStand ws = AllByRecursion (Here bytes) ws

  stand_append : (xs ys : List PlacedValue) → AllStand xs → AllStand ys → AllStand (xs ++ ys)
  stand_append [] ys h g = g
  stand_append (x ∷ xs) ys h g = (h.0, stand_append xs ys h.1 g)

  mutual
    stand_inside : (p : Place) (v : Value) (after : List ℕ) → depth v ≤ 80 → Ends bytes (value v after)
        → AllStand (inside p v after)
    stand_inside p (basic ps) after d e = tt
    stand_inside p (literal t) after d e = tt
    stand_inside p (multi_basic ps) after d e = tt
    stand_inside p (multi_literal ps) after d e = tt
    stand_inside p (boolean b) after d e = tt
    stand_inside p (integer n) after d e = tt
    stand_inside p (float f) after d e = tt
    stand_inside p (datetime t) after d e = tt
    stand_inside p (array g es) after d e =
        stand_elements p 0 es (right_bracket ∷ after) (omega arith)
        (ends_gap bytes g _ (ends_one bytes left_bracket _ e))
    stand_inside p (inline g ms) after d e =
        stand_members p ms (right_brace ∷ after) (omega arith)
        (ends_gap bytes g _ (ends_one bytes left_brace _ e))

    stand_elements : (p : Place) (i : ℕ) (es : Elements) (rest : List ℕ) → elements_depth es ≤ 80
        → Ends bytes (elements es rest) → AllStand (in_elements p i es rest)
    stand_elements p i no_elements rest d e = tt
    stand_elements p i (last_element v g) rest d e =
        (record { shallow = d; ends = e }, stand_inside (at p (index i)) v _ d e)
    stand_elements p i (element v g x es) rest d e =
        let here : depth v ≤ 80 = let k = d in omega arith in
        let more : elements_depth es ≤ 80 = let k = d in omega arith in (
          record { shallow = here; ends = e },
          stand_append _ _ (stand_inside (at p (index i)) v _ here e)
              (stand_elements p (suc i) es rest more
              (ends_gap bytes x _ (ends_one bytes comma _ (ends_gap bytes g _ (ends_value bytes v _ e))))),
        )

    stand_members : (p : Place) (ms : Members) (rest : List ℕ) → members_depth ms ≤ 80
        → Ends bytes (members ms rest) → AllStand (in_members p ms rest)
    stand_members p no_members rest d e = tt
    stand_members p (last_member k a b v c) rest d e =
        let from = ends_pair bytes k a b (value v (gap c rest)) e in
        (record { shallow = d; ends = from }, stand_inside (named p (names k)) v _ d from)
    stand_members p (member k a b v c x ms) rest d e =
        let from = ends_pair bytes k a b (value v (gap c (comma ∷ gap x (members ms rest)))) e in
        let here : depth v ≤ 80 = let k = d in omega arith in
        let more : members_depth ms ≤ 80 = let k = d in omega arith in (
          record { shallow = here; ends = from },
          stand_append _ _ (stand_inside (named p (names k)) v _ here from)
              (stand_members p ms rest more
              (ends_gap bytes x _ (ends_one bytes comma _ (ends_gap bytes c _ (ends_value bytes v _ from))))),
        )

  stand_statement : (prefix : Place) (s : Statement) (after : List ℕ) → statement_depth s ≤ 80
      → Ends bytes (statement s after) → AllStand (in_statement prefix s after)
  stand_statement prefix (pair k a b v) after d e =
      let from = ends_pair bytes k a b (value v after) e in
      (record { shallow = d; ends = from }, stand_inside (named prefix (names k)) v after d from)
  stand_statement prefix (header a k b) after d e = tt
  stand_statement prefix (element_header a k b) after d e = tt

  stand_lines : (earlier : List Assertion) (prefix : Place) (ls : Lines) → lines_depth ls ≤ 80
      → Ends bytes (lines ls) → AllStand (in_lines earlier prefix ls)
  stand_lines earlier prefix (one_line (empty_line a c)) d e = tt
  stand_lines earlier prefix (one_line (full_line a s b c)) d e =
      stand_statement prefix s _ d (ends_past bytes a _ e)
  stand_lines earlier prefix (more_lines (empty_line a c) n ls) d e =
      stand_lines earlier prefix ls (let k = d in omega arith)
      (ends_line_end bytes n (lines ls) (ends_line bytes (empty_line a c) (line_end n (lines ls)) e))
  stand_lines earlier prefix (more_lines (full_line a s b c) n ls) d e =
      let here : statement_depth s ≤ 80 = let k = d in omega arith in
      let more : lines_depth ls ≤ 80 = let k = d in omega arith in
      stand_append _ _ (stand_statement prefix s _ here (ends_past bytes a _ e))
      (stand_lines (earlier ++ of_statement earlier prefix s) (prefix_after earlier prefix s) ls more
      (ends_line_end bytes n (lines ls) (ends_line bytes (full_line a s b c) (line_end n (lines ls)) e)))

-- each value of a document stands so
pub values_stand : (bytes : List ℕ) (form : Text) → IsDocument bytes form → IsUtf8 bytes → (w : PlacedValue)
    → Among w (values form) → StandsIn bytes w
values_stand bytes form m u w among =
    let here = among_all (Here bytes) w (values form)
    (stand_lines bytes [] [] form.lines (shallow bytes form m) (ends_all bytes form (read_of bytes form m u)))
    among in
    record {
      valid = among_all (λ (z : PlacedValue). IsValue z.value) w (values form)
          (values_fine [] [] form.lines m.grammar.well_formed) among;
      shallow = here.shallow;
      ends = here.ends;
    }
