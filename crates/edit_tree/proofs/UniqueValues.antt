-- In a document no place has two values.
use Rattle.std.proofs.Common.{◌≡◌, ℕ, suc, Bool, true, false, ◌&&◌, ◌||◌, if◌then◌else◌, List, [], ◌∷◌, ◌++◌, map, Option, None, Some, refl, sym, ap, ap₂, ◌∙◌, subst, inl, inr, true≢false, append_assoc, append-nil}
use Rattle.std.proofs.lemmas.List.Elements.{filter_map-append}
use Rattle.std.proofs.lemmas.Bool.{and_parts}
use Rattle.std.specs.List.{AllByRecursion, filter_map, cons_option, list_any}
use Rattle.edit_syntax.specs.Characters.{comma, right_bracket, right_brace}
use Rattle.edit_syntax.specs.Strings.{Key, line_end}
use Rattle.edit_syntax.specs.Grammar.{gap, Value, basic, literal, multi_basic, multi_literal, boolean, integer, float, datetime, array, inline, Elements, no_elements, last_element, element, elements, Members, no_members, last_member, member, members, Statement, pair, header, element_header, empty_line, full_line, comment, Lines, one_line, more_lines, lines, Text}
use Rattle.edit_tree.specs.Assertions.{Place, key, index, at, names, named, Kind, dotted, leaf, super, header_kind, array_kind, element_kind, Assertion, of_key, of_value, of_elements, of_members, fronts, last_element_or_self, of_statement, prefix_after, of_lines, assertions, are_compatible, same_place, AreCompatible}
use Rattle.edit_tree.specs.Tree.{is_value_at}
use Rattle.edit_tree.specs.Written.{PlacedValue, placed_value, inside, in_elements, in_members, in_statement, in_lines, values}
use Rattle.edit_syntax.proofs.Members.{Among, among_all, among_map, map_among, filter_among}
use Rattle.edit_tree.proofs.ThinnedForms.{is_leaf}
use Rattle.edit_syntax.proofs.Cases.{by_test}
use Rattle.edit_tree.proofs.SamePlace.{same_place_is, same_place_self}

abbrev pub leaf_place : Assertion → Option Place
leaf_place a = if is_leaf a.kind then Some a.place else None

abbrev pub leaves : List Assertion → List Place
leaves made = filter_map leaf_place made

abbrev pub places : List PlacedValue → List Place
places ws = map (λ w. w.place) ws

leaves_append : (xs ys : List Assertion) → leaves (xs ++ ys) ≡ leaves xs ++ leaves ys
leaves_append xs ys = filter_map-append leaf_place xs ys

places_append : (xs ys : List PlacedValue) → places (xs ++ ys) ≡ places xs ++ places ys
places_append [] ys = refl
places_append (x ∷ xs) ys = ap (λ (l : List Place). x.place ∷ l) (places_append xs ys)

both : (xs ys : List Assertion) (us vs : List PlacedValue) → leaves xs ≡ places us → leaves ys ≡ places vs
    → leaves (xs ++ ys) ≡ places (us ++ vs)
both xs ys us vs e h = leaves_append xs ys ∙ ap₂ (λ (a : List Place) (b : List Place). a ++ b) e h ∙
    sym (places_append us vs)

key_leaves : (w : Bool) (by p : Place) (n : List ℕ) (ns : List (List ℕ)) (v : Value)
    → leaves (of_key w by p (n ∷ ns) v) ≡ named p (n ∷ ns) ∷ []
key_leaves w by p n [] v = refl
key_leaves w by p n (m ∷ ns) v = key_leaves w by (at p (key n)) m ns v ∙
    ap (λ (q : Place). q ∷ []) (append_assoc p (key n ∷ []) (map key (m ∷ ns)))

pair_leaves : (w : Bool) (p : Place) (k : Key) (v : Value) (after : List ℕ)
    → leaves (of_value (named p (names k)) v) ≡ places (inside (named p (names k)) v after)
    → leaves (of_key w (named p (names k)) p (names k) v ++ of_value (named p (names k)) v)
    ≡ places (placed_value (named p (names k)) v after ∷ inside (named p (names k)) v after)
pair_leaves w p k v after e =
    both (of_key w (named p (names k)) p (names k) v) (of_value (named p (names k)) v)
    (placed_value (named p (names k)) v after ∷ []) (inside (named p (names k)) v after)
    (key_leaves w (named p (names k)) p _ _ v) e

mutual
  value_leaves : (p : Place) (v : Value) (after : List ℕ) → leaves (of_value p v) ≡ places (inside p v after)
  value_leaves p (basic ps) after = refl
  value_leaves p (literal t) after = refl
  value_leaves p (multi_basic ps) after = refl
  value_leaves p (multi_literal ps) after = refl
  value_leaves p (boolean b) after = refl
  value_leaves p (integer n) after = refl
  value_leaves p (float f) after = refl
  value_leaves p (datetime d) after = refl
  value_leaves p (array g es) after = elements_leaves p 0 es (right_bracket ∷ after)
  value_leaves p (inline g ms) after = members_leaves p ms (right_brace ∷ after)

  elements_leaves : (p : Place) (i : ℕ) (es : Elements) (rest : List ℕ)
      → leaves (of_elements p i es) ≡ places (in_elements p i es rest)
  elements_leaves p i no_elements rest = refl
  elements_leaves p i (last_element v g) rest = ap (λ (l : List Place). at p (index i) ∷ l)
      (value_leaves (at p (index i)) v (gap g rest))
  elements_leaves p i (element v g h es) rest =
      let after = gap g (comma ∷ gap h (elements es rest)) in
      ap (λ (l : List Place). at p (index i) ∷ l)
      (both (of_value (at p (index i)) v) (of_elements p (suc i) es) (inside (at p (index i)) v after)
      (in_elements p (suc i) es rest) (value_leaves (at p (index i)) v after)
      (elements_leaves p (suc i) es rest))

  members_leaves : (p : Place) (ms : Members) (rest : List ℕ)
      → leaves (of_members p ms) ≡ places (in_members p ms rest)
  members_leaves p no_members rest = refl
  members_leaves p (last_member k a b v c) rest = pair_leaves true p k v (gap c rest)
      (value_leaves (named p (names k)) v (gap c rest))
  members_leaves p (member k a b v c d ms) rest =
      let q = named p (names k) in
      let after = gap c (comma ∷ gap d (members ms rest)) in
      both (of_key true q p (names k) v ++ of_value q v) (of_members p ms)
      (placed_value q v after ∷ inside q v after) (in_members p ms rest)
      (pair_leaves true p k v after (value_leaves q v after)) (members_leaves p ms rest)

front_leaves : (earlier : List Assertion) (by p : Place) (ns : List (List ℕ))
    → leaves (fronts earlier by p ns) ≡ []
front_leaves earlier by p [] = refl
front_leaves earlier by p (n ∷ []) = refl
front_leaves earlier by p (n ∷ m ∷ ns) = front_leaves earlier by (last_element_or_self earlier (at p (key n))) (m ∷ ns)

statement_leaves : (earlier : List Assertion) (prefix : Place) (s : Statement) (after : List ℕ)
    → leaves (of_statement earlier prefix s) ≡ places (in_statement prefix s after)
statement_leaves earlier prefix (pair k a b v) after = pair_leaves false prefix k v after
    (value_leaves (named prefix (names k)) v after)
statement_leaves earlier prefix (header a k b) after =
    leaves_append (fronts earlier _ [] (names k)) _ ∙ ap (λ (l : List Place). l ++ [])
    (front_leaves earlier _ [] (names k))
statement_leaves earlier prefix (element_header a k b) after =
    leaves_append (fronts earlier _ [] (names k)) _ ∙ ap (λ (l : List Place). l ++ [])
    (front_leaves earlier _ [] (names k))

pub lines_leaves : (earlier : List Assertion) (prefix : Place) (ls : Lines)
    → leaves (of_lines earlier prefix ls) ≡ leaves earlier ++ places (in_lines earlier prefix ls)
lines_leaves earlier prefix (one_line (empty_line a c)) = sym (append-nil (leaves earlier))
lines_leaves earlier prefix (one_line (full_line a s b c)) =
    leaves_append earlier (of_statement earlier prefix s) ∙
    ap (λ (l : List Place). leaves earlier ++ l) (statement_leaves earlier prefix s (b ++ comment c []))
lines_leaves earlier prefix (more_lines (empty_line a c) e ls) = lines_leaves earlier prefix ls
lines_leaves earlier prefix (more_lines (full_line a s b c) e ls) =
    let us = earlier ++ of_statement earlier prefix s in
    let after = b ++ comment c (line_end e (lines ls)) in
    lines_leaves us (prefix_after earlier prefix s) ls
    ∙ ap (λ (l : List Place). l ++ places (in_lines us (prefix_after earlier prefix s) ls))
    (leaves_append earlier (of_statement earlier prefix s))
    ∙ append_assoc (leaves earlier) (leaves (of_statement earlier prefix s)) _
    ∙ ap (λ (l : List Place). leaves earlier ++
    (l ++ places (in_lines us (prefix_after earlier prefix s) ls))) (statement_leaves earlier prefix s after)
    ∙ ap (λ (l : List Place). leaves earlier ++ l)
    (sym (places_append (in_statement prefix s after) (in_lines us (prefix_after earlier prefix s) ls)))

-- ---- no two at one place

abbrev Once : List Place → Type 0
Once [] = Unit {0}
Once (p ∷ ps) = AllByRecursion (λ q. p ≡ q → ⊥) ps × Once ps

no_other : (p : Place) (v : Value) (made : List Assertion)
    → AllByRecursion (λ b. p ≡ b.place → are_compatible (leaf v) b.kind ≡ true) made
    → AllByRecursion (λ q. p ≡ q → ⊥) (leaves made)
no_other p v [] h = tt
no_other p v (b ∷ made) h = go b.kind (no_other p v made h.1)
  where
    go : (k : Kind) → AllByRecursion (λ q. p ≡ q → ⊥) (leaves made)
        → AllByRecursion (λ q. p ≡ q → ⊥)
        (cons_option (if is_leaf k then Some b.place else None) (leaves made))
    go (leaf u) more = ((λ same. true≢false (sym (h.0 same))), more)
    go (dotted w) more = more
    go super more = more
    go header_kind more = more
    go array_kind more = more
    go element_kind more = more

once : (made : List Assertion) → AreCompatible made → Once (leaves made)
once [] h = tt
once (a ∷ made) h = go a.kind h.0 (once made h.1)
  where
    go : (k : Kind) → AllByRecursion (λ b. a.place ≡ b.place → are_compatible k b.kind ≡ true) made
        → Once (leaves made) → Once (cons_option (if is_leaf k then Some a.place else None) (leaves made))
    go (leaf v) g more = (no_other a.place v made g, more)
    go (dotted w) g more = more
    go super g more = more
    go header_kind g more = more
    go array_kind g more = more
    go element_kind g more = more

same_one : (ws : List PlacedValue) (w u : PlacedValue) → Once (places ws) → Among w ws → Among u ws
    → w.place ≡ u.place
    → w ≡ u
same_one [] w u o m n e = absurd m
same_one (x ∷ ws) w u o (inl p) (inl q) e = p ∙ sym q
same_one (x ∷ ws) w u o (inl p) (inr n) e =
    absurd (among_all (λ q. x.place ≡ q → ⊥) u.place (places ws) o.0
    (among_map (λ (z : PlacedValue). z.place) u ws n) (ap (λ (z : PlacedValue). z.place) (sym p) ∙ e))
same_one (x ∷ ws) w u o (inr m) (inl q) e =
    absurd (among_all (λ r. x.place ≡ r → ⊥) w.place (places ws) o.0
    (among_map (λ (z : PlacedValue). z.place) w ws m) (ap (λ (z : PlacedValue). z.place) (sym q) ∙ sym e))
same_one (x ∷ ws) w u o (inr m) (inr n) e = same_one ws w u o.1 m n e

pub values_unique : (form : Text) (w u : PlacedValue) → AreCompatible (assertions form)
    → Among w (values form)
    → Among u (values form) → w.place ≡ u.place → w ≡ u
values_unique form w u clash m n e = same_one (values form) w u
    (subst Once (lines_leaves [] [] form.lines) (once (assertions form) clash)) m n e

-- ---- a value that is reported is one of the values

leaf_listed : (p : Place) (made : List Assertion)
    → list_any (λ a. same_place a.place p && is_leaf a.kind) made ≡ true → Among p (leaves made)
leaf_listed p [] e = absurd (true≢false (sym e))
leaf_listed p (a ∷ made) e =
    by_test (same_place a.place p && is_leaf a.kind)
    (λ h. let b = and_parts (same_place a.place p) (is_leaf a.kind) h in
    subst (λ (o : Option Place). Among p (cons_option o (leaves made)))
    (sym (ap (λ c. if c then Some a.place else None) b.1)) (inl (sym (same_place_is a.place p b.0))))
    (λ h. listed a made (leaf_listed p made
    (sym (ap (λ c. c || list_any (λ a. same_place a.place p && is_leaf a.kind) made) h) ∙ e)))
  where
    listed : (a : Assertion) (made : List Assertion) → Among p (leaves made) → Among p (leaves (a ∷ made))
    listed a made m = later (leaf_place a) m
      where
        later : (o : Option Place) → Among p (leaves made) → Among p (cons_option o (leaves made))
        later None m = m
        later (Some q) m = inr m

pub value_listed : (form : Text) (p : Place) → AreCompatible (assertions form) → is_value_at form p ≡ true
    → (w : PlacedValue) × Among w (values form) × (w.place ≡ p)
value_listed form p clash e =
    let r = map_among (λ (w : PlacedValue). w.place) p (values form)
    (subst (λ (l : List Place). Among p l) (lines_leaves [] [] form.lines)
    (leaf_listed p (assertions form) e)) in
    (r.0, r.1, sym r.2)

leaf_found : (p : Place) (a : Assertion) (made : List Assertion) → Among a made → leaf_place a ≡ Some p
    → list_any (λ a. same_place a.place p && is_leaf a.kind) made ≡ true
leaf_found p a [] m e = absurd m
leaf_found p a (b ∷ made) (inl h) e =
    ap (λ (z : Assertion). (same_place z.place p && is_leaf z.kind) || list_any
    (λ a. same_place a.place p && is_leaf a.kind) made) (sym h) ∙
    ap (λ c. c || list_any (λ a. same_place a.place p && is_leaf a.kind) made) (here (is_leaf a.kind) refl e)
  where
    here : (c : Bool) → is_leaf a.kind ≡ c → (if c then Some a.place else None) ≡ Some p
        → (same_place a.place p && is_leaf a.kind) ≡ true
    here false k h = absurd cc
    here true k h = let same : a.place ≡ p = cc in
        ap₂ (λ b c. b && c) (ap (λ q. same_place q p) same ∙ same_place_self p) k
leaf_found p a (b ∷ made) (inr m) e = later (same_place b.place p && is_leaf b.kind) (leaf_found p a made m e)
  where
    later : (c : Bool) → list_any (λ a. same_place a.place p && is_leaf a.kind) made ≡ true
        → (c || list_any (λ a. same_place a.place p && is_leaf a.kind) made) ≡ true
    later true h = refl
    later false h = h

-- and each of the values is reported
pub listed_value : (form : Text) (w : PlacedValue) → Among w (values form) → is_value_at form w.place ≡ true
listed_value form w m =
    let listed = subst (λ (l : List Place). Among w.place l) (sym (lines_leaves [] [] form.lines))
    (among_map (λ (z : PlacedValue). z.place) w (values form) m) in
    let a = filter_among leaf_place w.place (assertions form) listed in
    leaf_found w.place a.0 (assertions form) a.1 a.2
