-- One more assertion, at a place that was not defined before.
use Rattle.std.proofs.Common.{◌≡◌, ℕ, suc, ◌+◌, ◌<◌, Bool, true, false, ◌&&◌, List, [], ◌∷◌, ◌++◌, length, Option, Some, None, refl, sym, ap, subst, ◌∙◌, inl, inr, arith}
use Rattle.std.specs.Prelude.{slice_get, slice_set}
use Rattle.std.proofs.lemmas.List.{length_push}
use Rattle.std.proofs.lemmas.List.Elements.{filter_map-append}
use Rattle.edit_syntax.specs.declared.span.Span.{Span}
use Rattle.edit_tree.specs.Assertions.{Step, key, index, Place, at, Kind, Assertion, are_compatible}
use Rattle.edit_tree.specs.Tree.{members_of, kind_at}
use Rattle.edit_document.specs.Items.{name_of_step, key_names}
use Rattle.edit_document.specs.DocumentLayout.{Placed, span_at}
use Rattle.edit_tree.specs.Redefinition.{defined_by, can_extend}
use Rattle.edit_tree.specs.Nodes.{ModelNode, names_of, StandsAt, below}
use Rattle.edit_tree.specs.Walk.{model_node_at}
use Rattle.edit_tree.proofs.SamePlace.{last_same, not_root, not_below, place_or}
use Rattle.edit_tree.proofs.TakenPairs.{together_is}
use Rattle.edit_tree.proofs.MoreAssertions.{kind_stays, kind_new, kind_else, kind_back, first_kind, first_stays, first_is, allowed_else, allowed_here, allowed_none, clear_more}
use Rattle.edit_tree.proofs.MoreMembers.{members_new, members_else, members_none, is_element, is_headed, elements_below, elements_stay, elements_grow, elements_else, elements_none}
use Rattle.edit_tree.proofs.Trees.{Grows, Gains, grown, last_is, tree_gain, each_gain}
use Rattle.edit_document.proofs.AssertedModels.{IsIndexed, indexed_stays, noted, span_else, span_here, shape_of_kind, Tells, Stands, was_asserted, nothing_below_model, nothing_under}

abbrev pub is_index : Step → Bool
is_index (key n) = false
is_index (index i) = true

abbrev pub more_elements : Step → ℕ → ℕ
more_elements (key n) m = m
more_elements (index i) m = suc m

-- a model node with one more step shows one more name or element
pub record Shows (s s2 : ModelNode) (x : Step) : Type 0 where
  pub shape : s2.shape ≡ s.shape
  pub taken : s2.taken ≡ s.taken
  pub span : s2.span ≡ s.span
  pub names : names_of s2 ≡ names_of s ++ key_names (x ∷ [])
  pub count : length s2.elements ≡ more_elements x (length s.elements)

counted : (made : List Assertion) (a : Assertion) (p : Place) (x : Step) → a.place ≡ at p x
    → is_element a.kind ≡ is_index x → elements_below (made ++ a ∷ []) p
    ≡ more_elements x (elements_below made p)
counted made a p (key n) place e = elements_stay made a p e
counted made a p (index i) place e = elements_grow made a p i e place

module _ (made : List Assertion) (written : List Placed) (models : List ModelNode) (t : ℕ) (s s2 : ModelNode) (x : Step)
    (a : Assertion) (span : Option Span) (st : Stands made written models) (here : slice_get models t ≡ Some s)
    (gains : Gains s s2 x (length models)) (shows : Shows s s2 x)
    (place : a.place ≡ at s.place x) (element : (k : Kind) → first_kind made s.place ≡ Some k
    → is_headed k ≡ true → is_element a.kind ≡ is_index x)
    (indexed : (i : ℕ) → x ≡ index i → IsIndexed made s.place i) (few : length s.place < 80) where
  nothing : kind_at made (at s.place x) ≡ None
  nothing = nothing_below_model made written models t s x st here gains.absent

  none : kind_at made a.place ≡ None
  none = ap (kind_at made) place ∙ nothing

  inner : a.place ≡ [] → ⊥
  inner e = not_root s.place x (sym place ∙ e)

  fresh : (i : ℕ) (u : ModelNode) → slice_get models i ≡ Some u → u.place ≡ at s.place x → ⊥
  fresh i u e same =
      let k = st.tells i u e in
      let some = was_asserted k (λ root. not_root s.place x (sym same ∙ root)) in
      let clash : None ≡ Some k.kind = sym nothing ∙ ap (kind_at made) (sym same) ∙ some in
      cc

  abbrev last : ModelNode
  last = model_node_at a.place (shape_of_kind a.kind) (defined_by a.kind) span

  bare : (y : Step) → below (model_node_at a.place (shape_of_kind a.kind) (defined_by a.kind) span) y ≡ None
  bare (key n) = refl
  bare (index i) = refl

  apart : a.place ≡ s.place → ⊥
  apart e = not_below s.place x (sym place ∙ e)

  tells_parent : Tells (made ++ a ∷ []) (written ++ noted a.place span) s2
  tells_parent =
      let k = st.tells t s here in
      let tells : Tells (made ++ a ∷ []) (written ++ noted a.place span) (record s2 { place = s.place }) =
      record {
        kind = k.kind;
        first = first_stays made a s.place k.kind k.first;
        shape = shows.shape ∙ k.shape;
        joined = λ root l. allowed_else made a s.place l apart ∙ k.joined root l ∙
            ap (λ w. can_extend w (defined_by l)) (sym shows.taken);
        names =
            shows.names ∙ ap (λ (ns : List (List ℕ)). ns ++ key_names (x ∷ [])) k.names ∙
            sym (filter_map-append name_of_step (members_of made s.place) (x ∷ []))
            ∙ ap key_names (sym (members_new made a s.place x place nothing));
        count = λ e. shows.count ∙ ap (more_elements x) (k.count e) ∙
            sym (counted made a s.place x place (element k.kind k.first e));
        span = shows.span ∙ k.span ∙ sym (span_else written a.place s.place span apart);
      } in
      subst (λ (q : Place). Tells (made ++ a ∷ []) (written ++ noted a.place span) (record s2 { place = q }))
      (sym gains.place) tells

  tells_last : Tells (made ++ a ∷ []) (written ++ noted a.place span)
      (model_node_at a.place (shape_of_kind a.kind) (defined_by a.kind) span)
  tells_last =
      let under = λ (y : Step). nothing_under made written models a.place y st inner none in
      record {
        kind = a.kind;
        first = first_is (made ++ a ∷ []) a.place inner ∙ kind_new made a a.place refl none;
        shape = refl;
        joined = λ root l. allowed_here made a a.place l refl ∙
            ap (λ (b : Bool). b && are_compatible a.kind l) (allowed_none made a.place l none) ∙
            together_is a.kind l;
        names = ap key_names
            (sym (members_else made a a.place (λ y e. not_below a.place y (sym e)) ∙
            members_none made a.place under));
        count = λ e. sym (elements_else made a a.place (λ i e. not_below a.place (index i) (sym e)) ∙
            elements_none made a.place under);
        span = sym (span_here written a.place span (unwritten (span_at written a.place) refl));
      }
    where
      unwritten : (o : Option Span) → span_at written a.place ≡ o → span_at written a.place ≡ None
      unwritten None e = e
      unwritten (Some w) e = let k = st.spans a.place w e in
          absurd (let clash : None ≡ Some k.0 = sym none ∙ k.1 in cc)

  tells_further : (i : ℕ) (u : ModelNode) → (i ≡ t → ⊥) → slice_get models i ≡ Some u
      → Tells (made ++ a ∷ []) (written ++ noted a.place span) u
  tells_further i u ne g =
      let k = st.tells i u g in
      let off : a.place ≡ u.place → ⊥ = λ e. fresh i u g (sym e ∙ place) in
      let under : (y : Step) → a.place ≡ at u.place y → ⊥ =
      λ y e. ne (st.tree.unique i t u s g here (sym (last_same s.place u.place x y (sym place ∙ e)).0)) in
      record {
        kind = k.kind;
        first = first_stays made a u.place k.kind k.first;
        shape = k.shape;
        joined = λ root l. allowed_else made a u.place l off ∙ k.joined root l;
        names = k.names ∙ ap key_names (sym (members_else made a u.place under));
        count = λ e. k.count e ∙ sym (elements_else made a u.place (λ j e. under (index j) e));
        span = k.span ∙ sym (span_else written a.place u.place span off);
      }

  pub gained_grows : Grows models (slice_set models t s2 ++ model_node_at a.place (shape_of_kind a.kind)
      (defined_by a.kind) span ∷ [])
  gained_grows = grown models t s s2 (model_node_at a.place (shape_of_kind a.kind) (defined_by a.kind) span) x st.tree
      here gains fresh place bare

  pub gained_last : StandsAt (slice_set models t s2 ++ model_node_at a.place (shape_of_kind a.kind)
      (defined_by a.kind) span ∷ []) (length models) a.place
  gained_last = (
    model_node_at a.place (shape_of_kind a.kind) (defined_by a.kind) span,
    last_is models t s s2 (model_node_at a.place (shape_of_kind a.kind) (defined_by a.kind) span) x st.tree here gains
        fresh place bare,
    refl,
  )

  pub stands_gained : Stands (made ++ a ∷ []) (written ++ noted a.place span)
      (slice_set models t s2 ++ model_node_at a.place (shape_of_kind a.kind) (defined_by a.kind) span ∷ [])
  stands_gained = record {
    tree = tree_gain models t s s2 (model_node_at a.place (shape_of_kind a.kind) (defined_by a.kind) span) x st.tree
        here gains fresh place bare;
    tells =
        each_gain models t s s2 (model_node_at a.place (shape_of_kind a.kind) (defined_by a.kind) span) x st.tree here
        gains fresh place bare (Tells (made ++ a ∷ []) (written ++ noted a.place span)) tells_parent
        tells_last tells_further;
    covers = λ p k e. elim (kind_back made a p k e) [
      | inl earlier ↦ let c = st.covers p k earlier in (c.0, gained_grows c.0 p c.1)
      | inr same ↦ (
        length models,
        subst (λ (q : Place). StandsAt (slice_set models t s2 ++ model_node_at a.place (shape_of_kind a.kind)
            (defined_by a.kind) span ∷ []) (length models) q) same gained_last,
      )
    ];
    rooted = kind_else made a [] inner ∙ st.rooted;
    indexed = λ p i k e. elim (kind_back made a (at p (index i)) k e) [
      | inl earlier ↦ indexed_stays made a p i (st.indexed p i k earlier)
      | inr same ↦
          let steps = last_same s.place p x (index i) (sym place ∙ same) in
          indexed_stays made a p i (subst (λ (q : Place). IsIndexed made q i) steps.0 (indexed i steps.1))
    ];
    spans = λ p w e. written_there p w e;
    clear = clear_more made a st.clear (allowed_none made a.place a.kind none)
        (let l : length (at s.place x) ≡ length s.place + 1 = length_push s.place x in
        let m : length a.place ≡ length (at s.place x) = ap length place in omega arith);
  }
    where
      written_there : (p : Place) (w : Span) → span_at (written ++ noted a.place span) p ≡ Some w → (k : Kind)
          × (kind_at (made ++ a ∷ []) p ≡ Some k)
      written_there p w e = elim (place_or a.place p) [
        | inl same ↦ (a.kind, kind_new made a p same (ap (kind_at made) (sym same) ∙ none))
        | inr ne ↦ let k = st.spans p w (sym (span_else written a.place p span ne) ∙ e) in
            (k.0, kind_stays made a p k.0 k.1)
      ]
