-- The walk along a place through two documents that are equal except at and below it, with or without the
-- order of members.
use Rattle.std.proofs.Common.{◌≡◌, ℕ, ◌+◌, ◌<◌, List, [], ◌∷◌, ◌++◌, length, get_or, take, drop, Some, None, sym, ap, subst, ◌∙◌}
use Rattle.std.specs.Prelude.{map}
use Rattle.std.proofs.lemmas.List.{map-append, take-append-drop}
use Rattle.edit_tree.specs.declared.place.Step.{Step as WrittenStep}
use Rattle.edit_tree.specs.Assertions.{Place, at}
use Rattle.edit_tree.specs.DocumentViews.{DocumentViews, tree_of}
use Rattle.edit_document.specs.Items.{place_view, step_view, node_place, IsNodeIndex}
use Rattle.edit_document.specs.Compared.{tree_below, IsNumber}
use Rattle.edit_tree.specs.IntendedTrees.{Tree}
use Rattle.edit_document.proofs.MemberViews.{place_more, walk_none}
use Rattle.edit_document.proofs.SameParts.{NoneBelow}
use Rattle.edit_compare.proofs.Besides.{GoesAlong}

-- a step of the walk
module _ (Beside : Place → Tree → Tree → Type 0) (goes : GoesAlong Beside) (d e : DocumentViews)
    (steps : List WrittenStep) (i : ℕ) (step : WrittenStep) (lt : i < length steps)
    (is : step ≡ get_or steps i step) (n m : ℕ)
    (left : node_place d n ≡ place_view (take i steps))
    (right : node_place e m ≡ place_view (take i steps)) where
  so_far : Place
  so_far = place_view (take i steps)

  next : place_view (take (i + 1) steps) ≡ at (place_view (take i steps)) (step_view step)
  next = place_more steps i step lt is

  whole : place_view steps ≡ at (place_view (take i steps)) (step_view step) ++ place_view
      (drop (i + 1) steps)
  whole =
      ap (map step_view) (sym (take-append-drop (i + 1) steps))
      ∙ map-append step_view (take (i + 1) steps) (drop (i + 1) steps)
      ∙ ap (λ (p : Place). p ++ place_view (drop (i + 1) steps)) next

  -- the same from these nodes on
  abbrev AroundNodes : Type 0
  AroundNodes =
      Beside (step_view step ∷ []) (tree_below d (node_place d n)) (tree_below e (node_place e m))

  abbrev AroundPlace : Type 0
  AroundPlace =
      Beside (step_view step ∷ []) (tree_below d (place_view (take i steps)))
      (tree_below e (place_view (take i steps)))

  pub walk_here : Beside (place_view steps) (tree_of d) (tree_of e) → AroundNodes
  walk_here same =
      let front : Beside (at (place_view (take i steps)) (step_view step)) (tree_of d) (tree_of e) =
      goes.front (at (place_view (take i steps)) (step_view step)) (place_view (drop (i + 1) steps))
      (tree_of d) (tree_of e)
      (subst (λ (p : Place). Beside p (tree_of d) (tree_of e)) whole same) in
      let here : AroundPlace =
      goes.back (place_view (take i steps)) (step_view step ∷ []) (tree_of d) (tree_of e) front in
      let one : Beside (step_view step ∷ []) (tree_below d (node_place d n))
      (tree_below e (place_view (take i steps))) =
      subst (λ (p : Place). Beside (step_view step ∷ []) (tree_below d p)
      (tree_below e (place_view (take i steps)))) (sym left) here in
      subst (λ (p : Place). Beside (step_view step ∷ []) (tree_below d (node_place d n)) (tree_below e p))
      (sym right) one

  -- nothing stands there in the second, where the walk ends early
  pub walk_ends : NoneBelow e → tree_of e (at (node_place e m) (step_view step)) ≡ None
      → tree_of e (place_view steps) ≡ None
  walk_ends below none = walk_none e below steps i step lt is (node_place e m) right none

  -- the nodes one step on
  pub walk_next : Beside (place_view (take i steps)) (tree_of d) (tree_of e) → AroundNodes → (a b : ℕ)
      → IsNodeIndex d (at (node_place d n) (step_view step)) (Some a)
      → IsNodeIndex e (at (node_place e m) (step_view step)) (Some b)
      → Beside (place_view (take (i + 1) steps)) (tree_of d) (tree_of e)
      × IsNumber d (place_view (take (i + 1) steps)) a × IsNumber e (place_view (take (i + 1) steps)) b
  walk_next front around a b na nb =
      let one : Beside (step_view step ∷ []) (tree_below d (place_view (take i steps)))
      (tree_below e (node_place e m)) =
      subst (λ (p : Place). Beside (step_view step ∷ []) (tree_below d p) (tree_below e (node_place e m)))
      left around in
      let here : AroundPlace =
      subst (λ (p : Place). Beside (step_view step ∷ []) (tree_below d (place_view (take i steps)))
      (tree_below e p)) right one in (
        subst (λ (p : Place). Beside p (tree_of d) (tree_of e)) (sym next)
            (goes.more (place_view (take i steps)) (step_view step ∷ []) (tree_of d) (tree_of e) front here),
        (na.2, na.1 ∙ ap (λ (p : Place). at p (step_view step)) left ∙ sym next),
        (nb.2, nb.1 ∙ ap (λ (p : Place). at p (step_view step)) right ∙ sym next),
      )
