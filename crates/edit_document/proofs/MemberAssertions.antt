-- How defining a member or an element changes the model nodes of the assertions so far.
use Rattle.std.proofs.Common.{◌≡◌, ℕ, suc, ◌+◌, ◌≤◌, Bool, true, false, cond, List, [], ◌∷◌, ◌++◌, length, Option, Some, None, refl, sym, ap, subst, ◌∙◌, ◌⊎◌, inl, inr, arith}
use Rattle.std.specs.Prelude.{slice_get, slice_set, map}
use Rattle.std.specs.Map.{lookup}
use Rattle.std.specs.Str.{bytes_eq}
use Rattle.std.proofs.lemmas.Bool.{cases_lt}
use Rattle.std.proofs.lemmas.List.{append-nil, length_push, map-append}
use Rattle.std.proofs.lemmas.Option.{slice_get_past}
use Rattle.std.proofs.lemmas.Slice.Eq.{bytes_eq-Decides}
use Rattle.edit_syntax.specs.declared.span.Span.{Span}
use Rattle.edit_tree.specs.declared.nodes.DefinedBy.{DefinedBy}
use Rattle.edit_tree.specs.declared.nodes.DefinedBy.TheVariants as takings
use Rattle.edit_tree.specs.declared.nodes.DefinedBy.TheVariants.{Dotted, Super, Header, Array, Element}
use Rattle.edit_tree.specs.Assertions.{Step, key, index, Place, at, Kind, Assertion}
use Rattle.edit_document.specs.DocumentLayout.{Placed}
use Rattle.edit_tree.specs.Redefinition.{defined_by, can_extend}
use Rattle.edit_tree.specs.Nodes.{ModelNode, StandsAt, below}
use Rattle.edit_tree.specs.Walk.{model_node_at, target_of, with_definition, node_extended, with_member, with_element, member_added, element_added, with_index, member_defined}
use Rattle.edit_tree.proofs.SamePlace.{not_root}
use Rattle.edit_syntax.proofs.ListElements.{get_front, get_last, equal_or}
use Rattle.edit_tree.proofs.ModelNodes.{child_is}
use Rattle.edit_tree.proofs.ModelTargets.{target_other, added_long, added_made, element_long, element_made}
use Rattle.edit_tree.proofs.KeyFronts.{asserted_new, asserted_old}
use Rattle.edit_tree.proofs.MoreAssertions.{first_kind, allowed, IsClear, clash_last, short_last}
use Rattle.edit_tree.proofs.MoreMembers.{is_element, is_headed}
use Rattle.edit_tree.proofs.Trees.{Grows, grows_set, Gains}
use Rattle.edit_document.proofs.AssertedModels.{IsIndexed, noted, shape_of_kind, Stands, stands_again}
use Rattle.edit_document.proofs.NewAssertions.{Shows, stands_gained, gained_grows, gained_last}

-- the model nodes represent one more assertion, whose place has a number; or it clashes
pub data Makes (made : List Assertion) (written : List Placed) (models : List ModelNode) (a : Assertion)
    (more : List Placed) (r : Option (List ModelNode × ℕ)) : Type 0 where
  makes : (now : List ModelNode) (j : ℕ) → r ≡ Some (now, j) → Stands (made ++ a ∷ []) (written ++ more) now
      → StandsAt now j a.place → Grows models now → Makes made written models a more r
  fails : r ≡ None → (IsClear (made ++ a ∷ []) → ⊥) → Makes made written models a more r

pub makes_along : {made : List Assertion} {written : List Placed} {models : List ModelNode} {a : Assertion}
    {more : List Placed} {r q : Option (List ModelNode × ℕ)} → q ≡ r → Makes made written models a more r
    → Makes made written models a more q
makes_along e (makes now j h s p g) = makes now j (e ∙ h) s p g
makes_along e (fails h c) = fails (e ∙ h) c

-- ---- a place that is taken again

again_is : (models : List ModelNode) (j : ℕ) (s : ModelNode) (taken : DefinedBy) (b : Bool)
    → slice_get models j ≡ Some s
    → can_extend s.taken taken ≡ b → node_extended models j taken
    ≡ cond b (Some (slice_set models j (with_definition s taken))) None
unfolding node_extended
again_is models j s taken b e h = rw (e, h) refl

pub again_makes : (made : List Assertion) (written : List Placed) (models : List ModelNode) (j : ℕ) (s : ModelNode)
    (a : Assertion) → Stands made written models → slice_get models j ≡ Some s → a.place ≡ s.place
    → (s.place ≡ [] → ⊥) → is_element a.kind ≡ false
    → Makes made written models a [] (with_index j (node_extended models j (defined_by a.kind)))
again_makes made written models j s a st here place inner plain = go (can_extend s.taken (defined_by a.kind)) refl
  where
    go : (b : Bool) → can_extend s.taken (defined_by a.kind) ≡ b
        → Makes made written models a [] (with_index j (node_extended models j (defined_by a.kind)))
    go true fits =
        let now = slice_set models j (with_definition s (defined_by a.kind)) in
        makes now j (ap (with_index j) (again_is models j s (defined_by a.kind) true here fits))
        (subst (λ (w : List Placed). Stands (made ++ a ∷ []) w now) (sym (append-nil written))
        (stands_again made written models j s a st here place inner fits plain))
        (grows_set models j s (with_definition s (defined_by a.kind)) here refl j a.place (s, here, sym place))
        (grows_set models j s (with_definition s (defined_by a.kind)) here refl)
    go false stops =
        fails (ap (with_index j) (again_is models j s (defined_by a.kind) false here stops))
        (λ clear.
        let fits : allowed made a.place a.kind ≡ true = clash_last made a clear in
        let says : allowed made a.place a.kind ≡ can_extend s.taken (defined_by a.kind) =
        ap (λ (q : Place). allowed made q a.kind) place ∙ (st.tells j s here).joined inner a.kind in
        let clash : true ≡ false = sym fits ∙ says ∙ stops in
        cc)

-- ---- a member more

lookup_more : (ms : List (List ℕ × ℕ)) (name q : List ℕ) (number : ℕ) (o : Option ℕ)
    → lookup (λ n. bytes_eq q n) ms ≡ o → o ≡ None → bytes_eq q name ≡ true
    → lookup (λ n. bytes_eq q n) (ms ++ (name, number) ∷ []) ≡ Some number
lookup_more [] name q number o e none same = rw same refl
lookup_more (m ∷ ms) name q number o e none same = go (bytes_eq q m.0) (e ∙ none)
    (λ h. lookup_more ms name q number None h refl same)
  where
    go : (b : Bool) → cond b (Some m.1) (lookup (λ n. bytes_eq q n) ms) ≡ None
        → (lookup (λ n. bytes_eq q n) ms ≡ None → lookup (λ n. bytes_eq q n) (ms ++ (name, number) ∷ [])
        ≡ Some number)
        → cond b (Some m.1) (lookup (λ n. bytes_eq q n) (ms ++ (name, number) ∷ [])) ≡ Some number
    go true h ih = absurd cc
    go false h ih = ih h

lookup_else : (ms : List (List ℕ × ℕ)) (name q : List ℕ) (number : ℕ) → bytes_eq q name ≡ false
    → lookup (λ n. bytes_eq q n) (ms ++ (name, number) ∷ []) ≡ lookup (λ n. bytes_eq q n) ms
lookup_else [] name q number e = rw e refl
lookup_else (m ∷ ms) name q number e = ap (λ (o : Option ℕ). cond (bytes_eq q m.0) (Some m.1) o)
    (lookup_else ms name q number e)

not_same : (q name : List ℕ) → (q ≡ name → ⊥) → bytes_eq q name ≡ false
not_same q name ne = go (bytes_eq q name) refl
  where
    go : (b : Bool) → bytes_eq q name ≡ b → bytes_eq q name ≡ false
    go true e = absurd (ne ((bytes_eq-Decides q name).0 e))
    go false e = e

member_gains : (s : ModelNode) (name : List ℕ) (number : ℕ) → below s (key name) ≡ None
    → Gains s (with_member s name number) (key name) number
member_gains s name number none = record {
  place = refl;
  gained = lookup_more s.members name name number None none refl ((bytes_eq-Decides name name).1 refl);
  others = elsewhere;
  absent = none;
}
  where
    elsewhere : (y : Step) → (y ≡ key name → ⊥) → below (with_member s name number) y ≡ below s y
    elsewhere (key q) ne = lookup_else s.members name q number (not_same q name (λ e. ne (ap key e)))
    elsewhere (index i) ne = refl

member_shows : (s : ModelNode) (name : List ℕ) (number : ℕ) → Shows s (with_member s name number) (key name)
member_shows s name number =
    record {
      shape = refl;
      taken = refl;
      span = refl;
      names = map-append (λ (e : List ℕ × ℕ). e.0) s.members ((name, number) ∷ []);
      count = refl;
    }

too_long : (made : List Assertion) (a : Assertion) (p : Place) (x : Step) → a.place ≡ at p x → 80 ≤ length p
    → IsClear (made ++ a ∷ []) → ⊥
too_long made a p x place le clear =
    let short : length a.place ≤ 80 = short_last made a clear in
    let size : length a.place ≡ length (at p x) = ap length place in
    let more : length (at p x) ≡ length p + 1 = length_push p x in
    omega arith

pub added_makes : (made : List Assertion) (written : List Placed) (models : List ModelNode) (t : ℕ) (s : ModelNode)
    (name : List ℕ) (a : Assertion) (span : Option Span) → Stands made written models
    → slice_get models t ≡ Some s → below s (key name) ≡ None → a.place ≡ at s.place (key name)
    → is_element a.kind ≡ false
    → Makes made written models a (noted a.place span)
    (member_added models t name (shape_of_kind a.kind) (defined_by a.kind) span)
added_makes made written models t s name a span st here none place plain =
    elim (cases_lt (length s.place) 80) [
      | inl few ↦
          let s2 = with_member s name (length models) in
          let gains = member_gains s name (length models) none in
          let shows = member_shows s name (length models) in
          let indexed : (i : ℕ) → key name ≡ index i → IsIndexed made s.place i = λ i e. absurd cc in
          let unindexed : (k : Kind) → first_kind made s.place ≡ Some k → is_headed k ≡ true
          → is_element a.kind ≡ false = λ k f e. plain in
          let last = model_node_at a.place (shape_of_kind a.kind) (defined_by a.kind) span in
          let is : member_added models t name (shape_of_kind a.kind) (defined_by a.kind) span
          ≡ Some (slice_set models t s2 ++ last ∷ [], length models) =
          added_made models t name (shape_of_kind a.kind) (defined_by a.kind) span s here few
          ∙ ap (λ (p : Place). Some (
            slice_set models t (with_member s name (length models)) ++ model_node_at p (shape_of_kind a.kind)
                (defined_by a.kind) span ∷ [],
            length models,
          )) (sym place) in
          makes (slice_set models t s2 ++ last ∷ []) (length models) is
          (stands_gained made written models t s s2
          (key name) a span st here gains shows place unindexed indexed
          few)
          (gained_last made written models t s s2 (key name) a span st here gains shows place unindexed indexed
          few) (gained_grows made written models t s s2
          (key name) a span st here gains shows place unindexed indexed few)
      | inr many ↦ fails (added_long models t name (shape_of_kind a.kind) (defined_by a.kind) span s here many)
          (too_long made a s.place (key name) place many)
    ]

-- only a value has a span
abbrev pub IsSpanFor : Kind → Option Span → Type 0
IsSpanFor k span = (span ≡ None) ⊎ (defined_by k ≡ takings.Value)

no_value_again : (t : DefinedBy) → can_extend t takings.Value ≡ true → ⊥
no_value_again Dotted e = cc
no_value_again takings.Value e = cc
no_value_again Super e = cc
no_value_again Header e = cc
no_value_again Array e = cc
no_value_again Element e = cc

-- a span of a place that is taken again
more_none : (made : List Assertion) (written : List Placed) (models : List ModelNode) (a : Assertion)
    (span : Option Span) (r : Option (List ModelNode × ℕ)) (j : ℕ) (s : ModelNode) → Stands made written models
    → slice_get models j ≡ Some s → a.place ≡ s.place → (s.place ≡ [] → ⊥) → IsSpanFor a.kind span
    → Makes made written models a [] r → Makes made written models a (noted a.place span) r
more_none made written models a span r j s st here place inner (inl e) m =
    subst (λ (o : Option Span). Makes made written models a (noted a.place o) r) (sym e) m
more_none made written models a span r j s st here place inner (inr e) (fails h c) = fails h c
more_none made written models a span r j s st here place inner (inr e) (makes now k h stands p g) =
    let fits : allowed made a.place a.kind ≡ true = clash_last made a stands.clear in
    let says : allowed made a.place a.kind ≡ can_extend s.taken (defined_by a.kind) =
    ap (λ (q : Place). allowed made q a.kind) place ∙ (st.tells j s here).joined inner a.kind in
    absurd (no_value_again s.taken (ap (can_extend s.taken) (sym e) ∙ sym says ∙ fits))

-- a member is asserted, by any kind but that of a header that goes on below it
pub member_makes : (made : List Assertion) (written : List Placed) (models : List ModelNode) (t : ℕ) (s : ModelNode)
    (name : List ℕ) (a : Assertion) (span : Option Span) → Stands made written models
    → slice_get models t ≡ Some s → a.place ≡ at s.place (key name)
    → is_element a.kind ≡ false → (defined_by a.kind ≡ Super → ⊥) → IsSpanFor a.kind span
    → Makes made written models a (noted a.place span)
    (member_defined models t name (shape_of_kind a.kind) (defined_by a.kind) span)
member_makes made written models t s name a span st here place plain kind spanned =
    go (below s (key name)) refl
  where
    go : (o : Option ℕ) → below s (key name) ≡ o
        → Makes made written models a (noted a.place span)
        (member_defined models t name (shape_of_kind a.kind) (defined_by a.kind) span)
    go None e =
        makes_along (asserted_new models t name (shape_of_kind a.kind) (defined_by a.kind) span
        (child_is models t s name here ∙ e))
        (added_makes made written models t s name a span st here e place plain)
    go (Some j) e =
        let d = st.tree.down t j s (key name) here e in
        let same : a.place ≡ d.0.place = place ∙ sym d.2 in
        let inner : d.0.place ≡ [] → ⊥ = λ root. not_root s.place (key name) (sym d.2 ∙ root) in
        let target : target_of models j (defined_by a.kind) ≡ j = target_other models j (defined_by a.kind) kind in
        makes_along
        (asserted_old models t j name (shape_of_kind a.kind) (defined_by a.kind) span
        (child_is models t s name here ∙ e) ∙
        ap (λ (n : ℕ). with_index n (node_extended models n (defined_by a.kind))) target)
        (more_none made written models a span (with_index j (node_extended models j (defined_by a.kind))) j d.0 st d.1
        same inner spanned (again_makes made written models j d.0 a st d.1 same inner plain))

-- ---- an element more

element_gains : (s : ModelNode) (number : ℕ)
    → Gains s (with_element s number) (index (length s.elements)) number
element_gains s number =
    record {
      place = refl;
      gained = get_last s.elements number;
      others = elsewhere;
      absent = slice_get_past s.elements (length s.elements) (omega arith);
    }
  where
    elsewhere : (y : Step) → (y ≡ index (length s.elements) → ⊥) → below (with_element s number) y ≡ below s y
    elsewhere (key q) ne = refl
    elsewhere (index i) ne = elim (cases_lt i (length s.elements)) [
      | inl lt ↦ get_front s.elements (number ∷ []) i lt
      | inr le ↦ elim (equal_or i (length s.elements)) [
        | inl same ↦ absurd (ne (ap index same))
        | inr off ↦
            let more : length (s.elements ++ number ∷ []) ≡ length s.elements + 1 =
            length_push s.elements number in
            slice_get_past (s.elements ++ number ∷ []) i (let apart : i ≡ length s.elements → ⊥ = off in
            omega arith) ∙ sym (slice_get_past s.elements i le)
      ]
    ]

element_shows : (s : ModelNode) (number : ℕ) → Shows s (with_element s number) (index (length s.elements))
element_shows s number =
    record {
      shape = refl;
      taken = refl;
      span = refl;
      names = sym (append-nil (map (λ (e : List ℕ × ℕ). e.0) s.members));
      count = length_push s.elements number ∙
          (let n : length s.elements + 1 ≡ suc (length s.elements) = omega arith in n);
    }

pub element_makes : (made : List Assertion) (written : List Placed) (models : List ModelNode) (t : ℕ) (s : ModelNode)
    (a : Assertion) (span : Option Span) → Stands made written models → slice_get models t ≡ Some s
    → a.place ≡ at s.place (index (length s.elements))
    → ((k : Kind) → first_kind made s.place ≡ Some k → is_headed k ≡ true → is_element a.kind ≡ true)
    → IsIndexed made s.place (length s.elements)
    → Makes made written models a (noted a.place span)
    (element_added models t (shape_of_kind a.kind) (defined_by a.kind) span)
element_makes made written models t s a span st here place plain lists = elim (cases_lt (length s.place) 80) [
  | inl few ↦
      let x = index (length s.elements) in
      let s2 = with_element s (length models) in
      let gains = element_gains s (length models) in
      let shows = element_shows s (length models) in
      let indexed : (i : ℕ) → index (length s.elements) ≡ index i
      → IsIndexed made s.place i = λ i e. subst (IsIndexed made s.place)
      (let same : length s.elements ≡ i = cc in same) lists in
      let last = model_node_at a.place (shape_of_kind a.kind) (defined_by a.kind) span in
      let is : element_added models t (shape_of_kind a.kind) (defined_by a.kind) span
      ≡ Some (slice_set models t s2 ++ last ∷ [], length models) =
      element_made models t (shape_of_kind a.kind) (defined_by a.kind) span s here few
      ∙ ap (λ (p : Place). Some (
        slice_set models t (with_element s (length models)) ++ model_node_at p (shape_of_kind a.kind)
            (defined_by a.kind) span ∷ [],
        length models,
      )) (sym place) in
      makes (slice_set models t s2 ++ last ∷ []) (length models) is
      (stands_gained made written models t s s2 x a span st here gains shows place plain indexed few)
      (gained_last made written models t s s2 x a span st here gains shows place plain indexed few)
      (gained_grows made written models t s s2 x a span st here gains shows place plain indexed few)
  | inr many ↦ fails (element_long models t (shape_of_kind a.kind) (defined_by a.kind) span s here many)
      (too_long made a s.place (index (length s.elements)) place many)
]
