-- The text of a syntax tree with replaced values: only the replaced values differ.
use Rattle.std.proofs.Common.{◌≡◌, ℕ, suc, true, List, [], ◌∷◌, ◌++◌, Option, None, Some, option_map, refl, sym, ap, ◌∙◌, subst, true≢false, append_assoc, append-nil}
use Rattle.std.proofs.lemmas.Bool.{and_parts, and_from}
use Rattle.std.proofs.lemmas.List.Elements.{filter_map-append}
use Rattle.std.specs.List.{AllByRecursion, filter_map, cons_option}
use Rattle.edit_syntax.specs.Characters.{comma, left_bracket, right_bracket, left_brace, right_brace}
use Rattle.edit_syntax.specs.Strings.{line_end, Key}
use Rattle.edit_syntax.specs.Grammar.{gap, Value, basic, literal, multi_basic, multi_literal, boolean, integer, float, datetime, array, inline, value, Elements, no_elements, last_element, element, elements, Members, no_members, last_member, member, members, Statement, pair, header, element_header, statement, empty_line, full_line, comment, Lines, one_line, more_lines, lines, Text, text}
use Rattle.edit_tree.specs.EditBytes.{is_within}
use Rattle.edit_tree.specs.Assertions.{Place, index, at, named, names, Assertion, of_statement, prefix_after}
use Rattle.edit_tree.specs.Written.{PlacedValue, placed_value, inside, in_elements, in_members, in_statement, in_lines}
use Rattle.edit_tree.specs.Replaces.{Edits, Writer, new_text, written_or, put, replaced_inside, replaced_elements, replaced_members, replaced_statement, replaced_lines, replaced_by, edited, Swaps, rest, next, is_below}
use Rattle.edit_tree.proofs.SamePlaces.{within_same, below_at, within_at, within_named}
use Rattle.edit_syntax.proofs.PutBefore.{IsPreserved, put_before, end_before, gap_before, pair_before, value_before, line_before, comment_before, statement_before, byte_order_mark_before}
use Rattle.edit_tree.proofs.ThinnedForms.{edited_below}
use Rattle.edit_tree.proofs.ReplacedTree.{AreApart}

pub swaps_one : (write : Writer) (more : List (PlacedValue × List ℕ)) → IsPreserved (Swaps write more)
swaps_one write more c old new (rest t) = rest (c ∷ t)
swaps_one write more c old new (next t w said others now s) = next (c ∷ t) w said others now s

abbrev pub edit_of : Edits → PlacedValue → Option (PlacedValue × List ℕ)
edit_of edits w = option_map (λ said. (w, said)) (new_text edits w.place)

abbrev edits_of : Edits → List PlacedValue → List (PlacedValue × List ℕ)
edits_of edits ws = filter_map (edit_of edits) ws

three_parts : (edits : Edits) (xs ys : List PlacedValue) (more : List (PlacedValue × List ℕ))
    → edits_of edits xs ++ (edits_of edits ys ++ more) ≡ edits_of edits (xs ++ ys) ++ more
three_parts edits xs ys more =
    sym (append_assoc (edits_of edits xs) (edits_of edits ys) more) ∙
    ap (λ (l : List (PlacedValue × List ℕ)). l ++ more) (sym (filter_map-append (edit_of edits) xs ys))

-- ---- inside an edited value nothing is edited

-- no place is edited below an edited one
abbrev pub NoneBelow : Edits → Type 0
NoneBelow edits = (p q : Place) (said : List ℕ) → new_text edits p ≡ Some said → is_below p q ≡ true
    → new_text edits q ≡ None

pub apart_none : (edits : Edits) (form : Text) → AreApart edits form → NoneBelow edits
apart_none edits form apart p q said e low = go (new_text edits q) refl
  where
    go : (o : Option (List ℕ)) → new_text edits q ≡ o → new_text edits q ≡ None
    go None h = h
    go (Some written_text) h = absurd (true≢false (sym (edited_below edits p q said e low) ∙ (apart q written_text h).1))

abbrev AreBelow : Place → List PlacedValue → Type 0
AreBelow target ws = AllByRecursion (λ w. is_below target w.place ≡ true) ws

below_append : (target : Place) (xs ys : List PlacedValue) → AreBelow target xs → AreBelow target ys
    → AreBelow target (xs ++ ys)
below_append target [] ys h more = more
below_append target (x ∷ xs) ys h more = (h.0, below_append target xs ys h.1 more)

-- a key leads below the place
key_below : (target p : Place) (k : Key) → is_within target p ≡ true
    → is_below target (named p (names k)) ≡ true
key_below target p k e =
    subst (λ q. is_below target q ≡ true) (append_assoc p _ _)
    (more target (at p _) _ (below_at target p _ e))
  where
    more : (target p q : Place) → is_below target p ≡ true → is_below target (p ++ q) ≡ true
    more [] [] q e = absurd (true≢false (sym e))
    more [] (t ∷ ts) q e = refl
    more (u ∷ us) [] q e = absurd (true≢false (sym e))
    more (u ∷ us) (t ∷ ts) q e = let h = and_parts _ _ e in and_from _ _ h.0 (more us ts q h.1)

mutual
  inside_below : (target p : Place) (v : Value) (after : List ℕ) → is_within target p ≡ true
      → AreBelow target (inside p v after)
  inside_below target p (basic ps) after e = tt
  inside_below target p (literal t) after e = tt
  inside_below target p (multi_basic ps) after e = tt
  inside_below target p (multi_literal ps) after e = tt
  inside_below target p (boolean b) after e = tt
  inside_below target p (integer n) after e = tt
  inside_below target p (float f) after e = tt
  inside_below target p (datetime d) after e = tt
  inside_below target p (array g es) after e = elements_below target p 0 es (right_bracket ∷ after) e
  inside_below target p (inline g ms) after e = members_below target p ms (right_brace ∷ after) e

  elements_below : (target p : Place) (i : ℕ) (es : Elements) (after : List ℕ) → is_within target p ≡ true
      → AreBelow target (in_elements p i es after)
  elements_below target p i no_elements after e = tt
  elements_below target p i (last_element v g) after e = (
    below_at target p (index i) e,
    inside_below target (at p (index i)) v _
        (within_at target p (index i) e),
  )
  elements_below target p i (element v g h es) after e = (
    below_at target p (index i) e,
    below_append target _ _
        (inside_below target (at p (index i)) v _ (within_at target p (index i) e))
        (elements_below target p (suc i) es after e),
  )

  members_below : (target p : Place) (ms : Members) (after : List ℕ) → is_within target p ≡ true
      → AreBelow target (in_members p ms after)
  members_below target p no_members after e = tt
  members_below target p (last_member k a b v c) after e = (
    key_below target p k e,
    inside_below target (named p (names k)) v _
        (within_named target p (names k) e),
  )
  members_below target p (member k a b v c d ms) after e = (
    key_below target p k e,
    below_append target _ _
        (inside_below target (named p (names k)) v _ (within_named target p (names k) e))
        (members_below target p ms after e),
  )

none_edited : (edits : Edits) (p : Place) (said : List ℕ) (ws : List PlacedValue) → NoneBelow edits
    → new_text edits p ≡ Some said → AreBelow p ws → edits_of edits ws ≡ []
none_edited edits p said [] free e low = refl
none_edited edits p said (w ∷ ws) free e low =
    ap (λ o. cons_option (option_map (λ (t : List ℕ). (w, t)) o) (edits_of edits ws))
    (free p w.place said e low.0) ∙ none_edited edits p said ws free e low.1

-- ---- values

-- the value at a place, where what is inside it was swapped
swaps_put : (write : Writer) (edits : Edits) (p : Place) (v u : Value) (more : List (PlacedValue × List ℕ))
    (old new : List ℕ) → NoneBelow edits → Swaps write more old new
    → Swaps write (edits_of edits (inside p v old) ++ more) (value v old) (value u new)
    → Swaps write (edits_of edits (placed_value p v old ∷ inside p v old) ++ more) (value v old)
    (value (put write edits p u) new)
swaps_put write edits p v u more old new free s within = go (new_text edits p) refl
  where
    go : (o : Option (List ℕ)) → new_text edits p ≡ o
        → Swaps write (cons_option (option_map (λ said. (placed_value p v old, said)) o)
        (edits_of edits (inside p v old)) ++ more) (value v old) (value (written_or write o u) new)
    go None e = within
    go (Some said) e =
        subst (λ l. Swaps write ((placed_value p v old, said) ∷ (l ++ more)) (value v old) (value (write said) new))
        (sym (none_edited edits p said (inside p v old) free e (inside_below p p v old (within_same p))))
        (next [] (placed_value p v old) said more new s)

mutual
  swaps_inside : (write : Writer) (edits : Edits) (p : Place) (v : Value) (more : List (PlacedValue × List ℕ))
      (old new : List ℕ) → NoneBelow edits → Swaps write more old new
      → Swaps write (edits_of edits (inside p v old) ++ more) (value v old)
      (value (replaced_inside write edits p v) new)
  swaps_inside write edits p (basic ps) more old new free s =
      value_before (Swaps write more) (swaps_one write more) (basic ps) old new s
  swaps_inside write edits p (literal t) more old new free s =
      value_before (Swaps write more) (swaps_one write more) (literal t) old new s
  swaps_inside write edits p (multi_basic ps) more old new free s =
      value_before (Swaps write more) (swaps_one write more) (multi_basic ps) old new s
  swaps_inside write edits p (multi_literal ps) more old new free s =
      value_before (Swaps write more) (swaps_one write more) (multi_literal ps) old new s
  swaps_inside write edits p (boolean b) more old new free s =
      value_before (Swaps write more) (swaps_one write more) (boolean b) old new s
  swaps_inside write edits p (integer n) more old new free s =
      value_before (Swaps write more) (swaps_one write more) (integer n) old new s
  swaps_inside write edits p (float f) more old new free s =
      value_before (Swaps write more) (swaps_one write more) (float f) old new s
  swaps_inside write edits p (datetime d) more old new free s =
      value_before (Swaps write more) (swaps_one write more) (datetime d) old new s
  swaps_inside write edits p (array g es) more old new free s =
      let all = edits_of edits (in_elements p 0 es (right_bracket ∷ old)) ++ more in
      swaps_one write all left_bracket _ _
      (gap_before (Swaps write all) (swaps_one write all) g _ _
      (swaps_elements write edits p 0 es more _ _ free (swaps_one write more right_bracket old new s)))
  swaps_inside write edits p (inline g ms) more old new free s =
      let all = edits_of edits (in_members p ms (right_brace ∷ old)) ++ more in
      swaps_one write all left_brace _ _
      (gap_before (Swaps write all) (swaps_one write all) g _ _
      (swaps_members write edits p ms more _ _ free (swaps_one write more right_brace old new s)))

  swaps_elements : (write : Writer) (edits : Edits) (p : Place) (i : ℕ) (es : Elements)
      (more : List (PlacedValue × List ℕ)) (old new : List ℕ) → NoneBelow edits → Swaps write more old new
      → Swaps write (edits_of edits (in_elements p i es old) ++ more) (elements es old)
      (elements (replaced_elements write edits p i es) new)
  swaps_elements write edits p i no_elements more old new free s = s
  swaps_elements write edits p i (last_element v g) more old new free s =
      let q = at p (index i) in
      let t = gap_before (Swaps write more) (swaps_one write more) g old new s in
      swaps_put write edits q v (replaced_inside write edits q v) more (gap g old) (gap g new) free t
      (swaps_inside write edits q v more (gap g old) (gap g new) free t)
  swaps_elements write edits p i (element v g h es) more old new free s =
      let q = at p (index i) in
      let o = gap g (comma ∷ gap h (elements es old)) in
      let n = gap g (comma ∷ gap h (elements (replaced_elements write edits p (suc i) es) new)) in
      let all = edits_of edits (in_elements p (suc i) es old) ++ more in
      let t = gap_before (Swaps write all) (swaps_one write all) g _ _
      (swaps_one write all comma _ _
      (gap_before (Swaps write all) (swaps_one write all) h _ _
      (swaps_elements write edits p (suc i) es more old new free s))) in
      subst (λ l. Swaps write l (value v o) (value (put write edits q (replaced_inside write edits q v)) n))
      (three_parts edits (placed_value q v o ∷ inside q v o) (in_elements p (suc i) es old) more)
      (swaps_put write edits q v (replaced_inside write edits q v) all o n free t
      (swaps_inside write edits q v all o n free t))

  swaps_members : (write : Writer) (edits : Edits) (p : Place) (ms : Members) (more : List (PlacedValue × List ℕ))
      (old new : List ℕ) → NoneBelow edits → Swaps write more old new
      → Swaps write (edits_of edits (in_members p ms old) ++ more) (members ms old)
      (members (replaced_members write edits p ms) new)
  swaps_members write edits p no_members more old new free s = s
  swaps_members write edits p (last_member k a b v c) more old new free s =
      let q = named p (names k) in
      let t = gap_before (Swaps write more) (swaps_one write more) c old new s in
      let all = edits_of edits (placed_value q v (gap c old) ∷ inside q v (gap c old)) ++ more in
      pair_before (Swaps write all) (swaps_one write all) k a b _ _
      (swaps_put write edits q v (replaced_inside write edits q v) more (gap c old) (gap c new) free t
      (swaps_inside write edits q v more (gap c old) (gap c new) free t))
  swaps_members write edits p (member k a b v c d ms) more old new free s =
      let q = named p (names k) in
      let o = gap c (comma ∷ gap d (members ms old)) in
      let n = gap c (comma ∷ gap d (members (replaced_members write edits p ms) new)) in
      let rest_all = edits_of edits (in_members p ms old) ++ more in
      let t = gap_before (Swaps write rest_all) (swaps_one write rest_all) c _ _
      (swaps_one write rest_all comma _ _ (gap_before (Swaps write rest_all) (swaps_one write rest_all) d _ _
      (swaps_members write edits p ms more old new free s))) in
      let all = edits_of edits (placed_value q v o ∷ inside q v o) ++ rest_all in
      subst (λ l. Swaps write l (members (member k a b v c d ms) old)
      (members (replaced_members write edits p (member k a b v c d ms)) new))
      (three_parts edits (placed_value q v o ∷ inside q v o) (in_members p ms old) more)
      (pair_before (Swaps write all) (swaps_one write all) k a b _ _
      (swaps_put write edits q v (replaced_inside write edits q v) rest_all o n free t
      (swaps_inside write edits q v rest_all o n free t)))

-- ---- lines

swaps_statement : (write : Writer) (edits : Edits) (prefix : Place) (s : Statement)
    (more : List (PlacedValue × List ℕ)) (old new : List ℕ) → NoneBelow edits → Swaps write more old new
    → Swaps write (edits_of edits (in_statement prefix s old) ++ more) (statement s old)
    (statement (replaced_statement write edits prefix s) new)
swaps_statement write edits prefix (pair k a b v) more old new free t =
    let q = named prefix (names k) in
    let all = edits_of edits (placed_value q v old ∷ inside q v old) ++ more in
    pair_before (Swaps write all) (swaps_one write all) k a b _ _
    (swaps_put write edits q v (replaced_inside write edits q v) more old new free t
    (swaps_inside write edits q v more old new free t))
swaps_statement write edits prefix (header a k b) more old new free t =
    statement_before (Swaps write more) (swaps_one write more) (header a k b) old new t
swaps_statement write edits prefix (element_header a k b) more old new free t =
    statement_before (Swaps write more) (swaps_one write more) (element_header a k b) old new t

pub swaps_lines : (write : Writer) (edits : Edits) (earlier : List Assertion) (prefix : Place) (ls : Lines)
    → NoneBelow edits
    → Swaps write (edits_of edits (in_lines earlier prefix ls)) (lines ls)
    (lines (replaced_lines write edits earlier prefix ls))
swaps_lines write edits earlier prefix (one_line (empty_line a c)) free = rest _
swaps_lines write edits earlier prefix (one_line (full_line a s b c)) free =
    let after = b ++ comment c [] in
    let all = edits_of edits (in_statement prefix s after) in
    put_before (Swaps write all) (swaps_one write all) a _ _
    (subst (λ l. Swaps write l (statement s after)
    (statement (replaced_statement write edits prefix s) after)) (append-nil all)
    (swaps_statement write edits prefix s [] after after free (rest after)))
swaps_lines write edits earlier prefix (more_lines (empty_line a c) e ls) free =
    let all = edits_of edits (in_lines earlier prefix ls) in
    line_before (Swaps write all) (swaps_one write all) (empty_line a c) _ _
    (end_before (Swaps write all) (swaps_one write all) e _ _
    (swaps_lines write edits earlier prefix ls free))
swaps_lines write edits earlier prefix (more_lines (full_line a s b c) e ls) free =
    let us = earlier ++ of_statement earlier prefix s in
    let p = prefix_after earlier prefix s in
    let more = edits_of edits (in_lines us p ls) in
    let o = b ++ comment c (line_end e (lines ls)) in
    let n = b ++ comment c (line_end e (lines (replaced_lines write edits us p ls))) in
    let t = put_before (Swaps write more) (swaps_one write more) b _ _
    (comment_before (Swaps write more) (swaps_one write more) c _ _
    (end_before (Swaps write more) (swaps_one write more) e _ _ (swaps_lines write edits us p ls free))) in
    let all = edits_of edits (in_statement prefix s o ++ in_lines us p ls) in
    put_before (Swaps write all) (swaps_one write all) a _ _
    (subst (λ l. Swaps write l (statement s o) (statement (replaced_statement write edits prefix s) n))
    (sym (filter_map-append (edit_of edits) (in_statement prefix s o) (in_lines us p ls)))
    (swaps_statement write edits prefix s more o n free t))

pub replaced_swaps : (write : Writer) (edits : Edits) (form : Text) → NoneBelow edits
    → Swaps write (edited edits form) (text form) (text (replaced_by write edits form))
replaced_swaps write edits form free =
    byte_order_mark_before (Swaps write (edited edits form)) (swaps_one write (edited edits form)) form.has_byte_order_mark _ _
    (swaps_lines write edits [] [] form.lines free)
