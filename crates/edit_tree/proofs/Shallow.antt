-- In a document arrays and inline tables nest at most 80 deep, since places have at most 80 steps; so a
-- document has exactly one syntax tree.
use Rattle.std.proofs.Common.{◌≡◌, ℕ, suc, ◌+◌, ◌≤◌, Bool, true, false, List, [], ◌∷◌, ◌++◌, map, length, Some, refl, ap, ◌∙◌, arith, length-append, sym}
use Rattle.edit_syntax.specs.Grammar.{Value, basic, literal, multi_basic, multi_literal, boolean, integer, float, datetime, array, inline, Elements, no_elements, last_element, element, Members, no_members, last_member, member, Statement, pair, header, element_header, empty_line, full_line, Lines, one_line, more_lines, Text}
use Rattle.edit_tree.specs.Assertions.{Place, key, index, at, names, named, Assertion, of_key, of_value, of_elements, of_members, of_statement, prefix_after, of_lines, AreShort, IsDocument}
use Rattle.edit_syntax.specs.Depth.{depth, elements_depth, members_depth, statement_depth, lines_depth, text_depth}
use Rattle.edit_syntax.specs.FormOf.{form_of}
use Rattle.edit_syntax.proofs.TextLaws.{read_again}

short_left : (xs ys : List Assertion) → AreShort (xs ++ ys) → AreShort xs
short_left [] ys h = tt
short_left (x ∷ xs) ys h = (h.0, short_left xs ys h.1)

short_right : (xs ys : List Assertion) → AreShort (xs ++ ys) → AreShort ys
short_right [] ys h = h
short_right (x ∷ xs) ys h = short_right xs ys h.1

key_short : (w : Bool) (by p : Place) (n : List ℕ) (ns : List (List ℕ)) (v : Value)
    → AreShort (of_key w by p (n ∷ ns) v) → length p + suc (length ns) ≤ 80
key_short w by p n [] v h = omega (arith, h.0, length-append p (key n ∷ []))
key_short w by p n (m ∷ ns) v h =
    omega (arith, key_short w by (at p (key n)) m ns v h.1, length-append p (key n ∷ []))

named_length : (p : Place) (ns : List (List ℕ)) → length (named p ns) ≡ length p + length ns
named_length p ns = length-append p (map key ns) ∙ ap (λ n. length p + n) (keys ns)
  where
    keys : (ns : List (List ℕ)) → length (map key ns) ≡ length ns
    keys [] = refl
    keys (n ∷ ns) = ap suc (keys ns)

mutual
  -- so deep that what is asserted inside stays within 80 steps
  value_shallow : (p : Place) (v : Value) → length p ≤ 80 → AreShort (of_value p v) → depth v + length p ≤ 81
  value_shallow p (basic ps) le h = omega arith
  value_shallow p (literal t) le h = omega arith
  value_shallow p (multi_basic ps) le h = omega arith
  value_shallow p (multi_literal ps) le h = omega arith
  value_shallow p (boolean b) le h = omega arith
  value_shallow p (integer n) le h = omega arith
  value_shallow p (float f) le h = omega arith
  value_shallow p (datetime d) le h = omega arith
  value_shallow p (array g es) le h = omega (arith, elements_shallow p 0 es le h)
  value_shallow p (inline g ms) le h = omega (arith, members_shallow p ms le h)

  elements_shallow : (p : Place) (i : ℕ) (es : Elements) → length p ≤ 80 → AreShort (of_elements p i es)
      → elements_depth es + length p ≤ 80
  elements_shallow p i no_elements le h = omega arith
  elements_shallow p i (last_element v g) le h =
      omega (arith, value_shallow (at p (index i)) v h.0 h.1, length-append p (index i ∷ []))
  elements_shallow p i (element v g x es) le h =
      omega (
        arith,
        value_shallow (at p (index i)) v h.0 (short_left (of_value (at p (index i)) v) _ h.1),
        length-append p (index i ∷ []),
        elements_shallow p (suc i) es le
            (short_right (of_value (at p (index i)) v) _ h.1),
      )

  members_shallow : (p : Place) (ms : Members) → length p ≤ 80 → AreShort (of_members p ms)
      → members_depth ms + length p ≤ 80
  members_shallow p no_members le h = omega arith
  members_shallow p (last_member k a b v c) le h =
      let q = named p (names k) in
      let long = key_short true q p _ _ v (short_left (of_key true q p (names k) v) (of_value q v) h) in
      let len = named_length p (names k) in
      omega (
        arith,
        long,
        len,
        value_shallow q v (omega (arith, long, len))
            (short_right (of_key true q p (names k) v) (of_value q v) h),
      )
  members_shallow p (member k a b v c d ms) le h =
      let q = named p (names k) in
      let here = short_left (of_key true q p (names k) v ++ of_value q v) (of_members p ms) h in
      let long = key_short true q p _ _ v (short_left (of_key true q p (names k) v) (of_value q v) here) in
      let len = named_length p (names k) in
      omega (
        arith,
        long,
        len,
        value_shallow q v (omega (arith, long, len))
            (short_right (of_key true q p (names k) v) (of_value q v) here),
        members_shallow p ms le
            (short_right (of_key true q p (names k) v ++ of_value q v) (of_members p ms) h),
      )

statement_shallow : (earlier : List Assertion) (prefix : Place) (s : Statement)
    → AreShort (of_statement earlier prefix s) → statement_depth s ≤ 80
statement_shallow earlier prefix (pair k a b v) h =
    let q = named prefix (names k) in
    let long = key_short false q prefix _ _ v
    (short_left (of_key false q prefix (names k) v) (of_value q v) h) in
    let len = named_length prefix (names k) in
    omega (
      arith,
      long,
      len,
      value_shallow q v (omega (arith, long, len))
          (short_right (of_key false q prefix (names k) v) (of_value q v) h),
    )
statement_shallow earlier prefix (header a k b) h = omega arith
statement_shallow earlier prefix (element_header a k b) h = omega arith

earlier_short : (earlier : List Assertion) (prefix : Place) (ls : Lines)
    → AreShort (of_lines earlier prefix ls) → AreShort earlier
earlier_short earlier prefix (one_line (empty_line a c)) h = h
earlier_short earlier prefix (one_line (full_line a s b c)) h =
    short_left earlier (of_statement earlier prefix s) h
earlier_short earlier prefix (more_lines (empty_line a c) e ls) h = earlier_short earlier prefix ls h
earlier_short earlier prefix (more_lines (full_line a s b c) e ls) h =
    short_left earlier (of_statement earlier prefix s)
    (earlier_short (earlier ++ of_statement earlier prefix s) (prefix_after earlier prefix s) ls h)

lines_shallow : (earlier : List Assertion) (prefix : Place) (ls : Lines)
    → AreShort (of_lines earlier prefix ls) → lines_depth ls ≤ 80
lines_shallow earlier prefix (one_line (empty_line a c)) h = omega arith
lines_shallow earlier prefix (one_line (full_line a s b c)) h =
    statement_shallow earlier prefix s (short_right earlier (of_statement earlier prefix s) h)
lines_shallow earlier prefix (more_lines (empty_line a c) e ls) h =
    omega (arith, lines_shallow earlier prefix ls h)
lines_shallow earlier prefix (more_lines (full_line a s b c) e ls) h =
    let us = earlier ++ of_statement earlier prefix s in
    let here = statement_shallow earlier prefix s
    (short_right earlier (of_statement earlier prefix s)
    (earlier_short us (prefix_after earlier prefix s) ls h)) in
    omega (arith, here, lines_shallow us (prefix_after earlier prefix s) ls h)

pub shallow : (bytes : List ℕ) (form : Text) → IsDocument bytes form → text_depth form ≤ 80
shallow bytes form document = lines_shallow [] [] form.lines document.short

-- a text is read to any form that makes it a document
pub manifest_form : (bytes : List ℕ) (form : Text) → IsDocument bytes form → form_of bytes ≡ Some form
manifest_form bytes form h =
    read_again 80 bytes form (record { spells = h.grammar; shallow = shallow bytes form h })

-- two forms of one document are the same
pub one_form : (bytes : List ℕ) (f g : Text) → IsDocument bytes f → IsDocument bytes g → f ≡ g
one_form bytes f g a b = let same : Some f ≡ Some g = sym (manifest_form bytes f a) ∙
    manifest_form bytes g b in cc
