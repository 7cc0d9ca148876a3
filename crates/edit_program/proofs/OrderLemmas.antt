-- The rows and the warnings of a plan are in the order of its inputs.
use Rattle.std.proofs.Common.{◌≡◌, ◌∙◌, ◌<◌, ◌≤◌, ◌-◌, ◌++◌, ◌∷◌, ℕ, zero, suc, List, [], Bool, true, false, ap, append-nil, arith, get_or, length, map, refl, sym, subst}
use Rattle.std.specs.List.{flat_map}
use Rattle.std.specs.List.Sorted.{IsNonDecreasingBy}
use Rattle.std.specs.Prelude.{◌==◌, All, cond, filter, slice_index_or}
use Rattle.std.proofs.lemmas.Grind.{flat_map-append}
use Rattle.std.proofs.lemmas.List.{append_assoc, get_or-map, length-map}
use Rattle.std.proofs.lemmas.List.Elements.{All-nil, All-push}
use Rattle.std.proofs.lemmas.List.Sorted.{IsNonDecreasingBy-push, IsNonDecreasingBy-short}
use Rattle.std.proofs.lemmas.Bool.{eqb-true}
use Rattle.edit_metadata.specs.declared.input.Input.{Input}
use Rattle.edit_upgrade.specs.Inputs.{RowsInOrder, WarningsInOrder, below}
use Rattle.edit_upgrade.specs.Lines.{line_of}
use Rattle.edit_upgrade.specs.Lists.{WarningView, warning_view}
use Rattle.edit_upgrade.specs.Rows.{Line}
use Rattle.edit_upgrade.specs.declared.upgrade.UpgradePlan.{UpgradePlan}
use Rattle.edit_program.specs.StderrText.{AreWarningsInOrder}
use Rattle.edit_program.specs.Tables.{AreInOrder}

module _ {A : Type 0} (number : A → ℕ) where
  -- items of inputs below a number, in their order
  record AreSorted (n : ℕ) (items : List A) : Type 0 where
    in_order : IsNonDecreasingBy number items
    low : All (λ (item : A). number item < n) items

  one_more : (n : ℕ) (items : List A) (item : A) → AreSorted (suc n) items → number item ≡ n
      → AreSorted (suc n) (items ++ item ∷ [])
  one_more n items item s is = record {
    in_order = IsNonDecreasingBy-push number items item s.in_order
        (λ d some.
        let last : number (get_or items (length items - 1) d) < suc n
        = s.low (length items - 1) d (omega (arith, some)) in
        omega (arith, last, is));
    low = All-push (λ (one : A). number one < suc n) items item s.low (omega (arith, is));
  }

  -- and those of some items that are of an input
  of_input : (n : ℕ) (all items : List A) → AreSorted (suc n) items
      → AreSorted (suc n) (items ++ filter (λ (item : A). number item == n) all)
  of_input n [] items s = subst (AreSorted (suc n)) (sym (append-nil items)) s
  of_input n (item ∷ all) items s =
      step (number item == n) refl (of_input n all (items ++ item ∷ [])) (of_input n all items)
    where
      rest : List A
      rest = filter (λ (one : A). number one == n) all

      HasNextState : List A → Type 0
      HasNextState front = AreSorted (suc n) front → AreSorted (suc n) (front ++ rest)

      step : (b : Bool) → (number item == n) ≡ b → HasNextState (items ++ item ∷ []) → HasNextState items
          → AreSorted (suc n) (items ++ cond b (item ∷ rest) rest)
      step true is more same =
          subst (AreSorted (suc n)) (append_assoc items (item ∷ []) rest)
          (more (one_more n items item s (eqb-true (number item) n is)))
      step false is more same = same s

  below_more : (n : ℕ) (items : List A) → AreSorted n items → AreSorted (suc n) items
  below_more n items s = record {
    in_order = s.in_order;
    low = λ k d within.
        let low : number (slice_index_or items k d) < n = s.low k d within in
        omega (arith, low);
  }

  -- those of each input below a number, one input after another
  in_turn : (all : List A) (n : ℕ)
      → AreSorted n (flat_map (λ i. filter (λ (item : A). number item == i) all) (below n))
  in_turn all zero = record {
    in_order = IsNonDecreasingBy-short number [] (omega arith);
    low = All-nil (λ (item : A). number item < zero);
  }
  in_turn all (suc n) =
      let of : ℕ → List A = λ i. filter (λ (item : A). number item == i) all in
      let joined : flat_map of (below (suc n)) ≡ flat_map of (below n) ++ of n
      = flat_map-append of (below n) (n ∷ [])
      ∙ ap (λ more. flat_map of (below n) ++ more) (append-nil (of n)) in
      subst (AreSorted (suc n)) (sym joined)
      (of_input n all (flat_map of (below n)) (below_more n (flat_map of (below n)) (in_turn all n)))

  -- items are in order, where what is seen of them is that of the inputs below a number, one after another
  in_order_by : {B : Type 0} (view : B → A) (n : ℕ) (items : List B)
      → map view items ≡ flat_map (λ i. filter (λ (a : A). number a == i) (map view items)) (below n)
      → IsNonDecreasingBy (λ item. number (view item)) items
  in_order_by view n items turns i j d before within =
      let views = map view items in
      let sorted : IsNonDecreasingBy number views
      = subst (IsNonDecreasingBy number) (sym turns) (in_turn views n).in_order in
      let long : length views ≡ length items = length-map items view in
      let at : (k : ℕ) → k < length items → get_or views k (view d) ≡ view (get_or items k d)
      = λ k low. get_or-map view items k d (view d) low in
      subst (λ (a : A). number a ≤ number (view (get_or items j d))) (at i (omega (arith, before, within)))
      (subst (λ (b : A). number (get_or views i (view d)) ≤ number b) (at j within)
      (sorted i j (view d) before (omega (arith, within, long))))

-- the rows of a plan are in order
pub rows_in_order : (inputs : List Input) (p : UpgradePlan) → RowsInOrder inputs p
    → AreInOrder p.rows.items
rows_in_order inputs p turns =
    in_order_by (λ (line : Line). line.input) line_of (length inputs) p.rows.items turns

-- the warnings of a plan are in order
pub warnings_in_order : (inputs : List Input) (p : UpgradePlan) → WarningsInOrder inputs p
    → AreWarningsInOrder p.warnings.items
warnings_in_order inputs p turns =
    in_order_by (λ (warning : WarningView). warning.input) warning_view (length inputs) p.warnings.items turns
