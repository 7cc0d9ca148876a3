-- A document is another one without an item where all outside the innermost table that stays is equal and
-- that table has lost a child.
use Rattle.std.proofs.Common.{◌≡◌, ℕ, zero, suc, ◌+◌, ◌<◌, Bool, true, false, List, [], ◌∷◌, ◌++◌, length, get_or, take, drop, Option, None, refl, sym, ap, subst, ◌∙◌, append_assoc, true≢false, arith}
use Rattle.std.specs.Bool.{Decides}
use Rattle.edit_syntax.specs.Grammar.{Text}
use Rattle.edit_tree.specs.declared.place.Step.{Step as WrittenStep}
use Rattle.edit_tree.specs.Assertions.{Place, Step, at, assertions}
use Rattle.edit_document.specs.Compared.{tree_below}
use Rattle.edit_tree.specs.EditBytes.{is_within}
use Rattle.edit_document.specs.Items.{place_view, step_view, node_place}
use Rattle.edit_document.specs.ItemRemoval.{SameButOrderBeside, LosesPart, IsLeft, IsLost, IsInnermost}
use Rattle.edit_tree.specs.IntendedTrees.{Loses, from_table, from_inline_table, from_array, from_table_array, Removed}
use Rattle.edit_tree.specs.DocumentViews.{DocumentViews, tree_of, ShowsTree}
use Rattle.edit_tree.specs.Tree.{View, kind_at}
use Rattle.edit_compare.proofs.RemainingParts.{none_view}
use Rattle.edit_compare.proofs.RemainingSteps.{whole_is}
use Rattle.edit_compare.proofs.RemovedTrees.{removed_beside, removed_part, removed_tree}
use Rattle.edit_compare.proofs.LeftAround.{within_rest}
use Rattle.edit_document.proofs.SameParts.{NoneBelow}
use Rattle.edit_document.proofs.MemberViews.{place_more}

module _ (d e : DocumentViews) (form : Text) (shows : ShowsTree d form)
    (below_d : NoneBelow d) (below_e : NoneBelow e)
    (steps : List WrittenStep) (remaining : ℕ) (step : WrittenStep) (is : step ≡ get_or steps remaining step)
    (stands : tree_of d (place_view steps) ≡ None → ⊥) (inn : IsInnermost form steps remaining) where
  front : Place
  front = place_view (take remaining steps)

  rest : Place
  rest = place_view (drop (remaining + 1) steps)

  split : place_view steps ≡ place_view (take remaining steps) ++ step_view step ∷ place_view
      (drop (remaining + 1) steps)
  split = whole_is form steps remaining step inn.less is

  left : IsLeft form (place_view (take remaining steps) ++ step_view step ∷ place_view (drop (remaining + 1) steps))
      (place_view (take remaining steps))
  left = subst (λ g. IsLeft form g (place_view (take remaining steps))) split inn.left

  lost : IsLost form (place_view (take remaining steps) ++ step_view step ∷ place_view (drop (remaining + 1) steps))
      (at (place_view (take remaining steps)) (step_view step))
  lost =
      subst (λ p. IsLost form (place_view (take remaining steps) ++ step_view step ∷ place_view
      (drop (remaining + 1) steps)) p) (place_more steps remaining step inn.less is)
      (subst (λ g. IsLost form g (place_view (take (remaining + 1) steps))) split inn.lost)

  stood : (p : Place) → (p ≡ [] → ⊥)
      → is_within p (place_view (take remaining steps) ++ step_view step ∷ place_view (drop (remaining + 1) steps))
      ≡ true
      → kind_at (assertions form) p ≡ None → ⊥
  stood p ne low none =
      let k = within_rest p (place_view (take remaining steps) ++ step_view step ∷ place_view
      (drop (remaining + 1) steps)) low in
      let here : tree_of d p ≡ None = shows p ∙ none_view (assertions form) p ne none in
      stands (ap (tree_of d) (split ∙ k.1) ∙ below_d p k.0 here)

  -- the place is one step below its table
  pub next_stands : (n : ℕ) → node_place d n ≡ place_view (take remaining steps)
      → tree_of d (at (node_place d n) (step_view step)) ≡ None → ⊥
  next_stands n place none =
      stands (ap (tree_of d) split
      ∙ ap (tree_of d) (sym (append_assoc (place_view (take remaining steps)) (step_view step ∷ [])
      (place_view (drop (remaining + 1) steps))))
      ∙ below_d (at (place_view (take remaining steps)) (step_view step)) (place_view (drop (remaining + 1) steps))
      (ap (λ p. tree_of d (at p (step_view step))) (sym place) ∙ none))

  -- where the walk ends early, the item was not removed alone
  pub lost_nowhere : (SameButOrderBeside (place_view (take remaining steps)) (tree_of d) (tree_of e)
      → tree_of e (place_view (take remaining steps)) ≡ None)
      → Removed form (place_view steps) (tree_of d) (tree_of e) → ⊥
  lost_nowhere none removed =
      let q = place_view (take remaining steps) in
      let t = step_view step in
      let r = place_view (drop (remaining + 1) steps) in
      let h : Removed form (q ++ t ∷ r) (tree_of d) (tree_of e) =
      subst (λ g. Removed form g (tree_of d) (tree_of e)) split removed in
      stays_there t (tree_of d q) (tree_of e q) (h.loses q t r refl left lost)
      (none (removed_beside form q t r stood left lost (tree_of d) (tree_of e) shows h))
    where
      stays_there : (t : Step) (o p : Option View) → Loses t o p → p ≡ None → ⊥
      stays_there t _ _ (from_table ms ns h) e = cc
      stays_there t _ _ (from_inline_table ms ns h) e = cc
      stays_there t _ _ (from_array n) e = cc
      stays_there t _ _ (from_table_array n) e = cc

  pub lost_there : (n m : ℕ) → SameButOrderBeside (place_view (take remaining steps)) (tree_of d) (tree_of e)
      → node_place d n ≡ place_view (take remaining steps) → node_place e m ≡ place_view (take remaining steps)
      → (b : Bool) → Decides b (LosesPart (step_view step) (tree_below d (node_place d n))
      (tree_below e (node_place e m)))
      → Decides b (Removed form (place_view steps) (tree_of d) (tree_of e))
  lost_there n m beside left_place right_place b decided = (
    λ yes. subst (λ g. Removed form g (tree_of d) (tree_of e)) (sym split)
        (removed_tree form (place_view (take remaining steps)) (step_view step)
        (place_view (drop (remaining + 1) steps)) stood left lost
        (tree_of d) (tree_of e) shows beside (to (decided.0 yes)) below_e),
    λ h. decided.1 (from (removed_part form (place_view (take remaining steps))
        (step_view step) (place_view (drop (remaining + 1) steps)) stood left lost
        (tree_of d) (tree_of e) shows
        (subst (λ g. Removed form g (tree_of d) (tree_of e)) split h))),
  )
    where
      to : LosesPart (step_view step) (tree_below d (node_place d n)) (tree_below e (node_place e m))
          → LosesPart (step_view step) (λ k. tree_of d (place_view (take remaining steps) ++ k))
          (λ k. tree_of e (place_view (take remaining steps) ++ k))
      to h =
          subst (λ p. LosesPart (step_view step) (λ k. tree_of d (place_view (take remaining steps) ++ k))
          (λ k. tree_of e (p ++ k))) right_place
          (subst (λ p. LosesPart (step_view step) (λ k. tree_of d (p ++ k))
          (λ k. tree_of e (node_place e m ++ k))) left_place h)

      from : LosesPart (step_view step) (λ k. tree_of d (place_view (take remaining steps) ++ k))
          (λ k. tree_of e (place_view (take remaining steps) ++ k))
          → LosesPart (step_view step) (tree_below d (node_place d n)) (tree_below e (node_place e m))
      from h =
          subst (λ p. LosesPart (step_view step) (tree_below d (node_place d n))
          (λ k. tree_of e (p ++ k))) (sym right_place)
          (subst (λ p. LosesPart (step_view step) (λ k. tree_of d (p ++ k))
          (λ k. tree_of e (place_view (take remaining steps) ++ k))) (sym left_place) h)

  -- ---- the same of a list of the first steps

  module _ (first : List WrittenStep) (cut : first ≡ take remaining steps) where
    pub first_stands : (n : ℕ) → node_place d n ≡ place_view first
        → tree_of d (at (node_place d n) (step_view step)) ≡ None → ⊥
    first_stands n place = next_stands n (place ∙ ap place_view cut)

    pub first_nowhere : (b : Bool) → b ≡ false
        → (SameButOrderBeside (place_view first) (tree_of d) (tree_of e)
        → tree_of e (place_view first) ≡ None)
        → Decides b (Removed form (place_view steps) (tree_of d) (tree_of e))
    first_nowhere b off none = (
      λ yes. absurd (true≢false (sym yes ∙ off)),
      λ h. absurd (lost_nowhere (subst (λ f. SameButOrderBeside (place_view f) (tree_of d) (tree_of e)
          → tree_of e (place_view f) ≡ None) cut none) h),
    )

    pub first_there : (n m : ℕ) → SameButOrderBeside (place_view first) (tree_of d) (tree_of e)
        → node_place d n ≡ place_view first
        → node_place e m ≡ place_view first
        → (b : Bool) → Decides b (LosesPart (step_view step) (tree_below d (node_place d n))
        (tree_below e (node_place e m)))
        → Decides b (Removed form (place_view steps) (tree_of d) (tree_of e))
    first_there n m beside left_place right_place b decided =
        lost_there n m (subst (λ f. SameButOrderBeside (place_view f) (tree_of d) (tree_of e)) cut beside)
        (left_place ∙ ap place_view cut)
        (right_place ∙ ap place_view cut) b decided

-- some step comes next
next_of : (steps : List WrittenStep) (k : ℕ) → k < length steps → (step : WrittenStep)
    × (step ≡ get_or steps k step)
next_of [] k lt = absurd (omega (arith, lt))
next_of (s ∷ steps) zero lt = (s, refl)
next_of (s ∷ steps) (suc k) lt = next_of steps k (omega (arith, lt))

pub nowhere : (d e : DocumentViews) (form : Text) → ShowsTree d form → NoneBelow d
    → NoneBelow e
    → (steps : List WrittenStep) (remaining : ℕ) → (tree_of d (place_view steps) ≡ None → ⊥)
    → IsInnermost form steps remaining
    → (first : List WrittenStep) → first ≡ take remaining steps
    → (SameButOrderBeside (place_view first) (tree_of d) (tree_of e) → tree_of e (place_view first) ≡ None)
    → Decides false (Removed form (place_view steps) (tree_of d) (tree_of e))
nowhere d e form shows below_d below_e steps remaining stands inn first cut none =
    let s = next_of steps remaining inn.less in
    first_nowhere d e form shows below_d below_e steps remaining s.0 s.1 stands inn first cut false refl none
