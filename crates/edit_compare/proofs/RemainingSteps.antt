-- The walk along a place to the innermost table or array around it that stays when the item is removed.
use Rattle.std.proofs.Common.{◌≡◌, ℕ, zero, suc, ◌+◌, ◌-◌, ◌<◌, ◌≤◌, Bool, true, false, List, [], ◌∷◌, ◌++◌, length, get_or, take, drop, Some, None, refl, sym, ap, subst, ◌∙◌, inl, inr, arith, append_assoc}
use Rattle.std.specs.Prelude.{map, nat_lt}
use Rattle.std.proofs.lemmas.Bool.{cases_lt, ltb-true, ltb-false}
use Rattle.std.proofs.lemmas.List.{map-append, take-append-drop, take_all}
use Rattle.edit_syntax.specs.Grammar.{Text}
use Rattle.edit_tree.specs.declared.place.Step.{Step as WrittenStep}
use Rattle.edit_tree.specs.Assertions.{Place, Step, at, assertions}
use Rattle.edit_document.specs.Compared.{nth_part, AreSteps, AreApart}
use Rattle.edit_document.specs.Items.{place_view, step_view, node_place, node_view, count_in}
use Rattle.edit_document.specs.ItemRemoval.{is_named, IsLeft, IsLost, IsRemaining, IsInnermost}
use Rattle.edit_tree.specs.IntendedTrees.{assertions_left}
use Rattle.edit_tree.specs.DocumentViews.{DocumentViews, tree_of, ShowsTree}
use Rattle.edit_tree.proofs.ElementWays.{are_made}
use Rattle.edit_tree.proofs.HeadedPlaces.{inside_self}
use Rattle.edit_compare.proofs.RemainingParts.{none_view, other_remains, only_remains, other_part, only_part}
use Rattle.edit_document.proofs.SameParts.{part_or, part_less, NothingElse}
use Rattle.edit_tree.proofs.StayingWays.{kind_stays, gone_stays}
use Rattle.edit_document.proofs.MemberViews.{place_more}

-- so far the place of this many steps is left, and those behind it are lost with what comes next
abbrev pub RemainsSoFar : Text → List WrittenStep → ℕ → ℕ → Type 0
RemainsSoFar form steps remaining index =
    IsLeft form (place_view steps) (place_view (take remaining steps))
    × ((j : ℕ) → remaining < j → j < index → IsLost form (place_view steps) (place_view (take (j + 1) steps))
    → IsLost form (place_view steps) (place_view (take j steps)))

-- the root is left
pub root_remains : (form : Text) (steps : List WrittenStep) → RemainsSoFar form steps 0 0
root_remains form steps = (λ none. cc, λ j le lt. absurd (omega (arith, lt)))

module _ (form : Text) (steps : List WrittenStep) (i : ℕ) (step : WrittenStep) (lt : i < length steps)
    (is : step ≡ get_or steps i step) where
  next : place_view (take (i + 1) steps) ≡ at (place_view (take i steps)) (step_view step)
  next = place_more steps i step lt is

  pub whole_is : place_view steps ≡ place_view (take i steps) ++ step_view step ∷ place_view
      (drop (i + 1) steps)
  whole_is =
      ap (map step_view) (sym (take-append-drop (i + 1) steps))
      ∙ map-append step_view (take (i + 1) steps) (drop (i + 1) steps)
      ∙ ap (λ (p : Place). p ++ place_view (drop (i + 1) steps)) next
      ∙ append_assoc (place_view (take i steps)) (step_view step ∷ []) (place_view (drop (i + 1) steps))

  -- the table or array here is left
  pub remains_here : IsRemaining form (place_view (take i steps)) (step_view step) true
      → RemainsSoFar form steps i (i + 1)
  remains_here h = (
    subst (λ g. IsLeft form g (place_view (take i steps))) (sym whole_is)
        (h (place_view (drop (i + 1) steps))),
    λ j le less. absurd (omega (arith, le, less)),
  )

  -- or it is lost with what comes next
  pub remains_before : (remaining : ℕ) → IsRemaining form (place_view (take i steps)) (step_view step) false
      → RemainsSoFar form steps remaining i → RemainsSoFar form steps remaining (i + 1)
  remains_before remaining h so = (
    so.0,
    λ j le less lost. elim (cases_lt j i) [
      | inl before ↦ so.1 j le before lost
      | inr ge ↦
          let same : i ≡ j = omega (arith, ge, less) in
          let last : IsLost form (place_view steps) (place_view (take (i + 1) steps)) =
          subst (λ m. IsLost form (place_view steps) (place_view (take (m + 1) steps))) (sym same) lost in
          let at_next : IsLost form (place_view steps) (at (place_view (take i steps)) (step_view step)) =
          subst (λ p. IsLost form (place_view steps) p) next last in
          let there = h (place_view (drop (i + 1) steps))
          (subst (λ g. IsLost form g (at (place_view (take i steps)) (step_view step))) whole_is at_next) in
          subst (λ m. IsLost form (place_view steps) (place_view (take m steps))) same
          (subst (λ g. IsLost form g (place_view (take i steps))) (sym whole_is) there)
    ],
  )

-- the steps before the first one that is lost
down : (P : ℕ → Type 0) (k n m j : ℕ) → j + m ≡ n → k < j → ((i : ℕ) → k < i → i < n → P (i + 1) → P i) → P n
    → P j
down P k n zero j e lt step last = let same : n ≡ j = omega (arith, e) in subst P same last
down P k n (suc m) j e lt step last =
    let more : (j + 1) + m ≡ n = omega (arith, e) in
    step j lt (omega (arith, e)) (down P k n m (j + 1) more (omega (arith, lt)) step last)

pub innermost : (form : Text) (steps : List WrittenStep) (remaining : ℕ) → (place_view steps ≡ [] → ⊥)
    → remaining < length steps
    → RemainsSoFar form steps remaining (length steps) → IsInnermost form steps remaining
innermost form steps remaining inner lt so = record {
  less = lt;
  left = so.0;
  lost = down (λ j. IsLost form (place_view steps) (place_view (take j steps))) remaining (length steps)
      (length steps - (remaining + 1)) (remaining + 1)
      (omega (arith, lt)) (omega arith) so.1
      (subst (λ xs. IsLost form (place_view steps) (place_view xs))
      (sym (take_all (length steps) steps (omega arith))) all);
}
  where
    all : IsLost form (place_view steps) (place_view steps)
    all = none_view (assertions_left (place_view steps) (assertions form)) (place_view steps) inner
        (elim (kind_stays (place_view steps) (assertions form) (are_made form) (place_view steps)) [
          | inl none ↦ none
          | inr stay ↦ absurd (gone_stays (place_view steps) (assertions form) (are_made form)
              (place_view steps)
              (inside_self (place_view steps)) stay)
        ])

-- ---- nodes

pub remaining_as : (form : Text) (p q : Place) (t : Step) {r b : Bool} → p ≡ q → r ≡ b → IsRemaining form p t r
    → IsRemaining form q t b
remaining_as form p q t {r} {b} e f h = subst (λ z. IsRemaining form z t b) e (subst (IsRemaining form p t) f h)

-- the root is left whatever goes
pub root_before : (form : Text) (steps : List WrittenStep) (remaining i : ℕ) → i ≡ 0 → RemainsSoFar form steps remaining i
    → RemainsSoFar form steps remaining (i + 1)
root_before form steps remaining i e so = (so.0, λ j le lt. absurd (omega (arith, le, lt, e)))

pub some_steps : (steps : List WrittenStep) → (place_view steps ≡ [] → ⊥) → 0 < length steps
some_steps [] ne = absurd (ne refl)
some_steps (s ∷ steps) ne = omega arith

-- a node that is not named is left where it has another part
pub parts_remain : (d : DocumentViews) (n : ℕ) (form : Text) → ShowsTree d form → (node_place d n ≡ [] → ⊥)
    → NothingElse d n
    → ((s : Step) (i : ℕ) → nth_part (node_view d n) i ≡ Some s
    → tree_of d (at (node_place d n) s) ≡ None → ⊥)
    → AreSteps (node_view d n) → AreApart (node_view d n) → is_named form (node_place d n) ≡ false
    → (t : Step) → (tree_of d (at (node_place d n) t) ≡ None → ⊥) → (count : ℕ)
    → count ≡ count_in (node_view d n)
    → IsRemaining form (node_place d n) t (nat_lt 1 count)
parts_remain d n form shows inner else stands steps apart named t stood count size = go (nat_lt 1 count) refl
  where
    part_of : (s : Step) → (tree_of d (at (node_place d n) s) ≡ None → ⊥) → (j : ℕ)
        × (nth_part (node_view d n) j ≡ Some s)
    part_of s some = elim (part_or (node_view d n) s (count_in (node_view d n))) [
      | inl k ↦ (k.0, k.2)
      | inr none ↦ absurd (some (else s (λ i h. none i (part_less (node_view d n) i s h) h)))
    ]

    go : (b : Bool) → nat_lt 1 count ≡ b → IsRemaining form (node_place d n) t b
    go true e =
        let p = other_part (node_view d n) t steps apart (let lt = ltb-true 1 count e in
        omega (arith, lt, size)) in
        other_remains form (node_place d n) inner t p.1 p.3
        (λ none. stands p.1 p.0 p.2 (shows (at (node_place d n) p.1) ∙ none))
    go false e =
        let few : count_in (node_view d n) ≤ 1 = let le = ltb-false 1 count e in
        omega (arith, le, size) in
        only_remains form (node_place d n) inner t named (λ s some.
        (let a = part_of s (λ none. some (sym (shows (at (node_place d n) s)) ∙ none)) in
        let b = part_of t stood in
        only_part (node_view d n) s t a.0 b.0 few a.1 b.1))
