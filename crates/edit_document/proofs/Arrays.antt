-- The number of elements of an array that exist.
use Rattle.std.proofs.Common.{◌≡◌, ℕ, zero, suc, ◌<◌, List, [], ◌∷◌, length, Option, Some, None, refl, sym, ap, subst, ◌∙◌, inl, inr, arith}
use Rattle.std.specs.Prelude.{slice_get}
use Rattle.std.proofs.lemmas.Bool.{cases_lt}
use Rattle.std.proofs.lemmas.Option.{slice_get_within}
use Rattle.edit_syntax.specs.Grammar.{Between, array, Elements}
use Rattle.edit_tree.specs.Assertions.{index, at, Kind, leaf, Assertion}
use Rattle.edit_tree.specs.Tree.{kind_at, count_elements}
use Rattle.edit_document.specs.DocumentLayout.{Placed}
use Rattle.edit_tree.specs.Nodes.{ModelNode}
use Rattle.edit_tree.proofs.SamePlace.{not_root}
use Rattle.edit_tree.proofs.MoreAssertions.{first_kind}
use Rattle.edit_document.proofs.AssertedModels.{Lists, Stands, was_asserted, step_below}

-- an element exists where a model node lists it
listed_stands : (made : List Assertion) (written : List Placed) (models : List ModelNode) (t : ℕ) (s : ModelNode) (i : ℕ)
    → Stands made written models → slice_get models t ≡ Some s → i < length s.elements → (k : Kind)
    × (kind_at made (at s.place (index i)) ≡ Some k)
listed_stands made written models t s i st here lt = pick (slice_get s.elements i) refl
  where
    past : (xs : List ℕ) (i : ℕ) → i < length xs → slice_get xs i ≡ None → ⊥
    past [] i lt e = omega arith
    past (x ∷ xs) zero lt e = cc
    past (x ∷ xs) (suc i) lt e = past xs i (omega arith) e

    pick : (o : Option ℕ) → slice_get s.elements i ≡ o → (k : Kind)
        × (kind_at made (at s.place (index i)) ≡ Some k)
    pick None e = absurd (past s.elements i lt e)
    pick (Some j) e =
        let d = st.tree.down t j s (index i) here e in
        let shown = st.tells j d.0 d.1 in (
          shown.kind,
          ap (kind_at made) (sym d.2) ∙
              was_asserted shown (λ root. not_root s.place (index i) (sym d.2 ∙ root)),
        )

-- and is listed where it stands
stands_listed : (made : List Assertion) (written : List Placed) (models : List ModelNode) (t : ℕ) (s : ModelNode) (i : ℕ)
    (k : Kind) → Stands made written models → slice_get models t ≡ Some s
    → kind_at made (at s.place (index i)) ≡ Some k → i < length s.elements
stands_listed made written models t s i k st here some =
    let c = st.covers (at s.place (index i)) k some in
    slice_get_within s.elements i c.0 (step_below made written models t s (index i) st here c.0 c.1)

-- the last element stands, and no more
pub elements_are : (made : List Assertion) (written : List Placed) (models : List ModelNode) (t : ℕ) (s : ModelNode)
    (i : ℕ) (k : Kind) → Stands made written models → slice_get models t ≡ Some s
    → kind_at made (at s.place (index i)) ≡ Some k
    → kind_at made (at s.place (index (suc i))) ≡ None → length s.elements ≡ suc i
elements_are made written models t s i k st here some none =
    let more : i < length s.elements = stands_listed made written models t s i k st here some in
    elim (cases_lt (suc i) (length s.elements)) [
      | inl lt ↦ let l = listed_stands made written models t s (suc i) st here lt in
          absurd (let clash : None ≡ Some l.0 = sym none ∙ l.1 in cc)
      | inr le ↦ omega arith
    ]

pub elements_none_at : (made : List Assertion) (written : List Placed) (models : List ModelNode) (t : ℕ) (s : ModelNode)
    → Stands made written models → slice_get models t ≡ Some s → kind_at made (at s.place (index 0)) ≡ None
    → length s.elements ≡ 0
elements_none_at made written models t s st here none =
    elim (cases_lt 0 (length s.elements)) [
      | inl lt ↦ let l = listed_stands made written models t s 0 st here lt in
          absurd (let clash : None ≡ Some l.0 = sym none ∙ l.1 in cc)
      | inr le ↦ omega arith
    ]

-- an array has all of its elements
pub elements_full : (made : List Assertion) (written : List Placed) (models : List ModelNode) (t : ℕ) (s : ModelNode)
    (g : List Between) (es : Elements) → Stands made written models → slice_get models t ≡ Some s
    → first_kind made s.place ≡ Some (leaf (array g es))
    → ((i : ℕ) → i < count_elements es → kind_at made (at s.place (index i)) ≡ None → ⊥)
    → length s.elements ≡ count_elements es
elements_full made written models t s g es st here first whole =
    elim (cases_lt (length s.elements) (count_elements es)) [
      | inl lt ↦ absurd (missing (kind_at made (at s.place (index (length s.elements)))) refl lt)
      | inr le ↦ elim (cases_lt (count_elements es) (length s.elements)) [
        | inl more ↦ absurd (extra more)
        | inr le2 ↦ omega arith
      ]
    ]
  where
    missing : (o : Option Kind) → kind_at made (at s.place (index (length s.elements))) ≡ o
        → length s.elements < count_elements es → ⊥
    missing None e lt = whole (length s.elements) lt e
    missing (Some k) e lt = let l = stands_listed made written models t s (length s.elements) k st here e in
        omega arith

    extra : count_elements es < length s.elements → ⊥
    extra more =
        let l = listed_stands made written models t s (count_elements es) st here more in
        let i = st.indexed s.place (count_elements es) l.0 l.1 in
        let same : i.kind ≡ leaf (array g es) =
        (let both : Some i.kind ≡ Some (leaf (array g es)) = sym i.first ∙ first in cc) in
        let lt : count_elements es < count_elements es =
        subst (λ (k : Kind). Lists k (count_elements es)) same i.lists in
        omega arith
