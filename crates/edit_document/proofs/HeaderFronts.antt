-- How a header that passes through a member changes the model nodes.
use Rattle.std.proofs.Common.{◌≡◌, ℕ, zero, suc, ◌-◌, ◌<◌, Bool, true, false, cond, List, [], ◌∷◌, length, Option, Some, None, refl, sym, ap, ◌∙◌, ◌⊎◌, inl, inr, arith}
use Rattle.std.specs.Prelude.{slice_get, nat_lt, unwrap_or}
use Rattle.std.proofs.lemmas.Bool.Decides.{nat_tests}
use Rattle.std.proofs.lemmas.Option.{slice_get_past}
use Rattle.edit_tree.specs.declared.nodes.DefinedBy.TheVariants.{Super}
use Rattle.edit_tree.specs.Assertions.{key, index, Place, at, Kind, dotted, leaf, super, header_kind, array_kind, element_kind, Assertion, asserts, elements_at, last_element_or_self}
use Rattle.edit_syntax.specs.Grammar.{Value, basic, literal, multi_basic, multi_literal, boolean, integer, float, datetime, array, inline}
use Rattle.edit_tree.specs.Tree.{kind_at}
use Rattle.edit_document.specs.DocumentLayout.{shape_of_value, Placed}
use Rattle.edit_tree.specs.Nodes.{Shape, section, ModelNode, below}
use Rattle.edit_tree.specs.Walk.{last_of, last_table, target_of, node_extended, with_index, member_defined}
use Rattle.edit_tree.proofs.SamePlace.{not_root}
use Rattle.edit_tree.proofs.ModelNodes.{child_is}
use Rattle.edit_tree.proofs.ModelTargets.{target_is}
use Rattle.edit_tree.proofs.KeyFronts.{asserted_new, asserted_old}
use Rattle.edit_tree.proofs.MoreMembers.{is_headed, elements_below, elements_none}
use Rattle.edit_document.proofs.AssertedModels.{shape_of_kind, Stands, was_asserted, nothing_below_model, nothing_under}
use Rattle.edit_document.proofs.MemberAssertions.{Makes, makes_along, again_makes, added_makes}

resolved_by : (earlier : List Assertion) (p : Place) (n : ℕ) → elements_at earlier p ≡ n
    → last_element_or_self earlier p ≡ cond (nat_lt 0 n) (at p (index (n - 1))) p
resolved_by earlier p n e = ap (λ (m : ℕ). cond (nat_lt 0 m) (at p (index (m - 1))) p) e

-- what has no table of its own among its elements
no_table : (v : Value) (numbers : List ℕ) → last_table (shape_of_value v) numbers ≡ None
no_table (basic ps) numbers = refl
no_table (literal text) numbers = refl
no_table (multi_basic ps) numbers = refl
no_table (multi_literal ps) numbers = refl
no_table (boolean b) numbers = refl
no_table (integer n) numbers = refl
no_table (float f) numbers = refl
no_table (datetime d) numbers = refl
no_table (array g es) numbers = refl
no_table (inline g ms) numbers = refl

no_last : (k : Kind) (numbers : List ℕ) → (k ≡ array_kind → ⊥) → last_table (shape_of_kind k) numbers ≡ None
no_last (dotted true) numbers ne = refl
no_last (dotted false) numbers ne = refl
no_last (leaf v) numbers ne = no_table v numbers
no_last super numbers ne = refl
no_last header_kind numbers ne = refl
no_last array_kind numbers ne = absurd (ne refl)
no_last element_kind numbers ne = refl

array_or : (k : Kind) → (k ≡ array_kind) ⊎ (k ≡ array_kind → ⊥)
array_or (dotted b) = inr (λ e. cc)
array_or (leaf v) = inr (λ e. cc)
array_or super = inr (λ e. cc)
array_or header_kind = inr (λ e. cc)
array_or array_kind = inl refl
array_or element_kind = inr (λ e. cc)

pub super_makes : (made earlier : List Assertion) (written : List Placed) (models : List ModelNode) (t : ℕ)
    (s : ModelNode) (name : List ℕ) (by : Place) → Stands made written models → slice_get models t ≡ Some s
    → ((p : Place) → elements_at earlier p ≡ elements_below made p)
    → ((p : Place) → (elements_at earlier p ≡ 0) ⊎ (kind_at made p ≡ Some array_kind))
    → Makes made written models (asserts by (last_element_or_self earlier (at s.place (key name))) super) []
    (member_defined models t name section Super None)
super_makes made earlier written models t s name by st here even alone = go (below s (key name)) refl
  where
    p : Place
    p = at s.place (key name)

    a : Assertion
    a = asserts by (last_element_or_self earlier (at s.place (key name))) super

    taken_at : (j e : ℕ) (d : ModelNode) (q : Place) → below s (key name) ≡ Some j
        → target_of models j Super ≡ e
        → slice_get models e ≡ Some d → d.place ≡ q → last_element_or_self earlier (at s.place (key name)) ≡ q
        → (q ≡ [] → ⊥)
        → Makes made written models (asserts by (last_element_or_self earlier (at s.place (key name))) super) []
        (member_defined models t name section Super None)
    taken_at j e d q b target stands place is inner =
        makes_along (asserted_old models t j name section Super None (child_is models t s name here ∙ b) ∙
        ap (λ (n : ℕ). with_index n (node_extended models n Super)) target)
        (again_makes made written models e d (asserts by (last_element_or_self earlier (at s.place (key name))) super) st
        stands (is ∙ sym place) (λ root. inner (sym place ∙ root)) refl)

    counted : (j : ℕ) (d : ModelNode) → (stands : slice_get models j ≡ Some d)
        → (st.tells j d stands).kind ≡ array_kind → d.place ≡ at s.place (key name)
        → elements_at earlier (at s.place (key name)) ≡ length d.elements
    counted j d stands kind place = even (at s.place (key name)) ∙ ap (elements_below made) (sym place) ∙
        sym ((st.tells j d stands).count (ap is_headed kind))

    last_is : (j : ℕ) (d : ModelNode) → (stands : slice_get models j ≡ Some d)
        → (st.tells j d stands).kind ≡ array_kind → last_table d.shape d.elements ≡ last_of d.elements
    last_is j d stands kind = ap (λ (x : Shape). last_table x d.elements) ((st.tells j d stands).shape ∙
        ap shape_of_kind kind)

    some : (j : ℕ) (d : ModelNode) (n : ℕ) → below s (key name) ≡ Some j
        → (stands : slice_get models j ≡ Some d)
        → (st.tells j d stands).kind ≡ array_kind → d.place ≡ at s.place (key name) → length d.elements ≡ n
        → Makes made written models (asserts by (last_element_or_self earlier (at s.place (key name))) super) []
        (member_defined models t name section Super None)
    some j d zero b stands kind place size =
        let none : last_of d.elements ≡ None = slice_get_past d.elements (length d.elements - 1)
        (omega arith) in
        taken_at j j d (at s.place (key name)) b (target_is models j d stands ∙
        ap (λ (o : Option ℕ). unwrap_or o j) (last_is j d stands kind ∙ none)) stands place
        (resolved_by earlier (at s.place (key name)) 0 (counted j d stands kind place ∙ size))
        (not_root s.place (key name))
    some j d (suc n) b stands kind place size =
        let lt : n < length d.elements = omega arith in
        let l = last_some d.elements n lt in
        let number : length d.elements - 1 ≡ n = omega arith in
        let less : suc n - 1 ≡ n = omega arith in
        let positive : nat_lt 0 (suc n) ≡ true = grind (arith, nat_tests) in
        let last : last_of d.elements ≡ Some l.0 = ap (slice_get d.elements) number ∙ l.1 in
        let e = st.tree.down j l.0 d (index n) stands l.1 in
        let upper : e.0.place ≡ at (at s.place (key name)) (index n) = e.2 ∙
        ap (λ (q : Place). at q (index n)) place in
        taken_at j l.0 e.0 (at (at s.place (key name)) (index n)) b
        (target_is models j d stands ∙ ap (λ (o : Option ℕ). unwrap_or o j) (last_is j d stands kind ∙ last))
        e.1 upper (resolved_by earlier (at s.place (key name)) (suc n) (counted j d stands kind place ∙
        size) ∙ ap (λ (b : Bool). cond b (at (at s.place (key name)) (index (suc n - 1)))
        (at s.place (key name))) positive ∙ ap (λ (m : ℕ). at (at s.place (key name)) (index m)) less)
        (not_root (at s.place (key name)) (index n))
      where
        last_some : (xs : List ℕ) (i : ℕ) → i < length xs → (x : ℕ) × (slice_get xs i ≡ Some x)
        last_some xs i lt = pick (slice_get xs i) refl
          where
            pick : (o : Option ℕ) → slice_get xs i ≡ o → (x : ℕ) × (slice_get xs i ≡ Some x)
            pick (Some x) e = (x, e)
            pick None e = absurd (past xs i lt e)
              where
                past : (xs : List ℕ) (i : ℕ) → i < length xs → slice_get xs i ≡ None → ⊥
                past [] i lt e = omega arith
                past (x ∷ xs) zero lt e = cc
                past (x ∷ xs) (suc i) lt e = past xs i (omega arith) e

    -- no array of tables
    none : (j : ℕ) (d : ModelNode) → below s (key name) ≡ Some j → (stands : slice_get models j ≡ Some d)
        → ((st.tells j d stands).kind ≡ array_kind → ⊥) → d.place ≡ at s.place (key name)
        → Makes made written models (asserts by (last_element_or_self earlier (at s.place (key name))) super) []
        (member_defined models t name section Super None)
    none j d b stands other place =
        let shown = st.tells j d stands in
        let bare : last_table d.shape d.elements ≡ None =
        ap (λ (x : Shape). last_table x d.elements) shown.shape ∙ no_last shown.kind d.elements other in
        let inner : d.place ≡ [] → ⊥ = λ root. not_root s.place (key name) (sym place ∙ root) in
        let zero_elements : elements_at earlier (at s.place (key name)) ≡ 0 =
        elim (alone (at s.place (key name))) [
          | inl e ↦ e
          | inr k ↦ absurd (other (let same : Some shown.kind
              ≡ Some array_kind = sym (was_asserted shown inner) ∙ ap (kind_at made) place ∙ k in cc))
        ] in
        taken_at j j d (at s.place (key name)) b (target_is models j d stands ∙
        ap (λ (o : Option ℕ). unwrap_or o j) bare) stands place
        (resolved_by earlier (at s.place (key name)) 0 zero_elements) (not_root s.place (key name))

    go : (o : Option ℕ) → below s (key name) ≡ o
        → Makes made written models (asserts by (last_element_or_self earlier (at s.place (key name))) super) []
        (member_defined models t name section Super None)
    go None e =
        let nothing = nothing_below_model made written models t s (key name) st here e in
        let zero_elements : elements_at earlier (at s.place (key name)) ≡ 0 =
        even (at s.place (key name)) ∙ elements_none made (at s.place (key name))
        (λ y. nothing_under made written models (at s.place (key name)) y st
        (not_root s.place (key name)) nothing) in
        let is : last_element_or_self earlier (at s.place (key name)) ≡ at s.place (key name) =
        resolved_by earlier (at s.place (key name)) 0 zero_elements in
        makes_along (asserted_new models t name section Super None (child_is models t s name here ∙ e))
        (added_makes made written models t s name (asserts by (last_element_or_self earlier (at s.place (key name))) super)
        None st here e is refl)
    go (Some j) e =
        let d = st.tree.down t j s (key name) here e in
        elim (array_or (st.tells j d.0 d.1).kind) [
          | inl kind ↦ some j d.0 (length d.0.elements) e d.1 kind d.2 refl
          | inr other ↦ none j d.0 e d.1 other d.2
        ]
