-- The index of the node of a member or an element.
use Rattle.std.proofs.Common.{◌≡◌, ℕ, List, Option, Some, None, refl, sym, ap, ◌∙◌, inl, inr}
use Rattle.std.specs.Prelude.{slice_get}
use Rattle.edit_tree.specs.Assertions.{Step, key, index, at}
use Rattle.edit_document.specs.Items.{names_in, node_place, node_view, IsNodeIndex}
use Rattle.edit_tree.specs.DocumentViews.{DocumentViews, tree_of}
use Rattle.edit_document.specs.Compared.{nth_part, AreSteps, IsChildIndex}

abbrev StandsPart : DocumentViews → ℕ → Type 0
StandsPart d number = (step : Step) (i : ℕ) → nth_part (node_view d number) i ≡ Some step
    → tree_of d (at (node_place d number) step) ≡ None → ⊥

abbrev NoneElse : DocumentViews → ℕ → Type 0
NoneElse d number = (step : Step) → ((i : ℕ) → nth_part (node_view d number) i ≡ Some step → ⊥)
    → tree_of d (at (node_place d number) step) ≡ None

pub member_part : (d : DocumentViews) (number i : ℕ) (name : List ℕ) (r : Option ℕ) → StandsPart d number
    → nth_part (node_view d number) i ≡ Some (key name)
    → IsNodeIndex d (at (node_place d number) (key name)) r → IsChildIndex d number i r
member_part d number i name None stands part h = absurd (stands (key name) i part h)
member_part d number i name (Some n) stands part h = (key name, part, h.2, h.1)

pub element_part : (d : DocumentViews) (number i : ℕ) (r : Option ℕ) → AreSteps (node_view d number)
    → StandsPart d number → NoneElse d number → slice_get (names_in (node_view d number)) i ≡ None
    → IsNodeIndex d (at (node_place d number) (index i)) r → IsChildIndex d number i r
element_part d number i r steps stands else none h = go (nth_part (node_view d number) i) refl r h
  where
    here : ℕ
    here = number

    go : (o : Option Step) → nth_part (node_view d number) i ≡ o → (r : Option ℕ)
        → IsNodeIndex d (at (node_place d number) (index i)) r → IsChildIndex d number i r
    go None e None h = e
    go None e (Some n) h =
        let other = else (index i) (λ j p. elim (steps j (index i) p) [
          | inl k ↦ (let clash : index i ≡ key k.0 = k.2 in cc)
          | inr k ↦ (let same : index i ≡ index j = k.1 in let same_number : j ≡ i = cc in
              let clash : None ≡ Some (index i) = sym e ∙
              ap (nth_part (node_view d here)) (sym same_number) ∙
              p in cc)
        ]) in
        let clash : None ≡ Some (node_view d n) = sym other ∙ h.0 in
        absurd cc
    go (Some step) e r h =
        elim (steps i step e) [
          | inl k ↦ (let clash : None ≡ Some k.0 = sym none ∙ k.1 in absurd cc)
          | inr k ↦ there r h (e ∙ ap Some k.1)
        ]
      where
        there : (r : Option ℕ) → IsNodeIndex d (at (node_place d number) (index i)) r
            → nth_part (node_view d number) i ≡ Some (index i) → IsChildIndex d number i r
        there None h e = absurd (stands (index i) i e h)
        there (Some n) h e = (index i, e, h.2, h.1)
