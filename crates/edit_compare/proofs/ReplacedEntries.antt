-- A new entry at a place of a document.
use Rattle.std.proofs.Common.{◌≡◌, ℕ, suc, Bool, true, false, eqb, List, [], ◌∷◌, ◌-◌, length, take, Some, None, refl, sym, ap, subst, ◌∙◌, append-nil, arith}
use Rattle.std.specs.Bool.{Decides}
use Rattle.edit_tree.specs.declared.place.Step.{Step as WrittenStep}
use Rattle.edit_tree.specs.Assertions.{Place}
use Rattle.edit_tree.specs.Tree.{View, string, truth, whole, fractional, moment, static_array, table_array, inline_table, table}
use Rattle.edit_tree.specs.NewItems.{NewItem}
use Rattle.edit_tree.specs.IntendedTrees.{above, is_inline_table, HasReplaced}
use Rattle.edit_tree.specs.DocumentViews.{DocumentViews, tree_of}
use Rattle.edit_document.specs.Items.{node_place, place_view, step_view}
use Rattle.edit_document.specs.Compared.{kind_of, ShowsItem, FindsBeside}
use Rattle.edit_document.proofs.ShownItems.{item_some}

module _ (d e : DocumentViews) (place : Place) (item : NewItem) where
  pub replaced_there : (n m : ℕ) (inside r : Bool) → inside ≡ is_inline_table (tree_of d (above place))
      → FindsBeside place d e (Some (n, m)) → Decides r (ShowsItem e (node_place e m) inside item)
      → Decides r (HasReplaced place item (tree_of d) (tree_of e))
  replaced_there n m inside r is (beside, left, right) decided =
      let there : Decides r (ShowsItem e place inside item) =
      subst (λ (p : Place). Decides r (ShowsItem e p inside item)) right.1 decided in
      let within : Decides r (ShowsItem e place (is_inline_table (tree_of d (above place))) item) =
      subst (λ (b : Bool). Decides r (ShowsItem e place b item)) is there in
      (λ t. record { there = within.0 t; elsewhere = beside }, λ h. within.1 h.there)

  pub replaced_nowhere : FindsBeside place d e None → HasReplaced place item (tree_of d) (tree_of e) → ⊥
  replaced_nowhere finds h =
      item_some (is_inline_table (tree_of d (above place))) item
      (sym (h.there []) ∙ ap (tree_of e) (append-nil place) ∙ finds h.elsewhere)

-- the place above a place of the code
pub above_seen : (steps : List WrittenStep) (n : ℕ) → n ≡ length steps - 1
    → place_view (take n steps) ≡ above (place_view steps)
above_seen [] n e = ap (λ (k : ℕ). place_view (take k [])) e
above_seen (s ∷ []) n e = ap (λ (k : ℕ). place_view (take k (s ∷ []))) e
above_seen (s ∷ t ∷ ts) n e =
    let k : n ≡ suc (length ts) = omega (arith, e) in
    let rest : length ts ≡ length (t ∷ ts) - 1 = omega arith in
    ap (λ (j : ℕ). place_view (take j (s ∷ t ∷ ts))) k
    ∙ ap (λ (p : Place). step_view s ∷ p) (above_seen (t ∷ ts) (length ts) rest)

-- an inline table is recognized by its kind
pub inline_kind : (v : View) (k : ℕ) → k ≡ kind_of v → eqb k 8 ≡ is_inline_table (Some v)
inline_kind v k e = ap (λ (j : ℕ). eqb j 8) e ∙ go v
  where
    go : (v : View) → eqb (kind_of v) 8 ≡ is_inline_table (Some v)
    go (string s) = refl
    go (truth true) = refl
    go (truth false) = refl
    go (whole s) = refl
    go (fractional s) = refl
    go (moment s) = refl
    go (static_array n) = refl
    go (table_array n) = refl
    go (inline_table ms) = refl
    go (table ms) = refl
