-- When the second of two documents is the first one with an item removed.
use Rattle.std.specs.Prelude.{◌≡◌, ℕ, ◌+◌, ◌-◌, ◌<◌, Bool, true, false, nat_lt, if◌then◌else◌, ◌&&◌, List, [], ◌∷◌, ◌++◌, length, take, slice_get, Option, Some, None, MatchOption}
use Rattle.std.specs.List.{list_any}
use Rattle.edit_syntax.specs.Grammar.{Text}
use Rattle.edit_tree.specs.declared.place.Step.{Step as WrittenStep}
use Rattle.edit_tree.specs.Assertions.{Step, key, index, Place, at, same_place, assertions}
use Rattle.edit_document.specs.Compared.{nth_part, SameButOrderBelow, IsNumber}
use Rattle.edit_tree.specs.EditBytes.{is_within}
use Rattle.edit_document.specs.Items.{place_view, node_place, node_view, names_in}
use Rattle.edit_tree.specs.IntendedTrees.{Tree, Vanishes, place_after_removal, is_member, SameButOrder, Loses}
use Rattle.edit_tree.specs.DocumentViews.{DocumentViews, tree_of}

-- ---- trees

-- the two trees are equal except at and below the place, and except for the order of members
abbrev pub SameButOrderBeside : Place → Tree → Tree → Type 0
SameButOrderBeside place old new = (q : Place) → is_within place q ≡ false → SameButOrder (old q) (new q)

-- the new tree is the old one with the child at `t` removed; other children are unchanged at their new places
pub record LosesPart (t : Step) (old new : Tree) : Type 0 where
  pub here : Loses t (old []) (new [])
  pub nothing_there : is_member (t ∷ []) ≡ true → new (t ∷ []) ≡ None
  pub elsewhere : (s : Step) (q : Place) → (s ≡ t → ⊥)
      → SameButOrder (old (s ∷ q)) (new (place_after_removal (t ∷ []) (s ∷ q)))

-- The result has the indices of the nodes at a place in two documents that are equal except at and below it
-- and for the order of members; it is `None` only where they differ elsewhere or the second has no item
-- there.
abbrev pub FindsUnordered : Place → DocumentViews → DocumentViews → Option (ℕ × ℕ) → Type 0
FindsUnordered place d e r =
    MatchOption r (SameButOrderBeside place (tree_of d) (tree_of e) → tree_of e place ≡ None)
    (λ f. SameButOrderBeside place (tree_of d) (tree_of e) × IsNumber d place f.0 × IsNumber e place f.1)

-- ---- what stays around a removed item

-- the place is defined by a statement, a member or an element that names it
abbrev pub is_named : Text → Place → Bool
is_named form p = list_any (λ a. same_place a.by p && same_place a.place p) (assertions form)

-- something still defines the place when `gone` is removed
abbrev pub IsLeft : Text → Place → Place → Type 0
IsLeft form gone q = Vanishes form gone q → ⊥

-- nothing defines the place when `gone` is removed
abbrev pub IsLost : Text → Place → Place → Type 0
IsLost form gone q = Vanishes form gone q

-- True: the place stays, whatever is removed at or below its child at `t`. False: it vanishes where that
-- child vanishes.
abbrev pub IsRemaining : Text → Place → Step → Bool → Type 0
IsRemaining form q t true = (r : Place) → IsLeft form (q ++ t ∷ r) q
IsRemaining form q t false = (r : Place) → IsLost form (q ++ t ∷ r) (at q t) → IsLost form (q ++ t ∷ r) q

-- n is the number of steps to the innermost table or array around the place that stays
pub record IsInnermost (form : Text) (steps : List WrittenStep) (n : ℕ) : Type 0 where
  pub less : n < length steps
  pub left : IsLeft form (place_view steps) (place_view (take n steps))
  pub lost : IsLost form (place_view steps) (place_view (take (n + 1) steps))

-- ---- what the code compares

-- the trees at the child of this index and at the corresponding child are equal except for the order of
-- members
abbrev pub UnorderedPart : DocumentViews → ℕ → DocumentViews → ℕ → ℕ → Type 0
UnorderedPart d n e m i =
    (s : Step) → nth_part (node_view d n) i ≡ Some s
    → SameButOrderBelow d (at (node_place d n) s) e (at (node_place e m) s)

-- the trees at each child, except the one at `t`, and at the corresponding child are equal except for the
-- order of members
abbrev pub UnorderedPartsBut : Step → DocumentViews → ℕ → DocumentViews → ℕ → Type 0
UnorderedPartsBut t d n e m =
    (i : ℕ) (s : Step) → nth_part (node_view d n) i ≡ Some s → (s ≡ t → ⊥)
    → SameButOrderBelow d (at (node_place d n) s) e (at (node_place e m) s)

-- the index of an array element after the child at a step is removed
abbrev pub moved_index : Step → ℕ → ℕ
moved_index (key name) j = j
moved_index (index i) j = if nat_lt i j then j - 1 else j

-- the place of a child at step `s` after the child at step `t` is removed
abbrev pub moved_place : Step → Place → Step → Place
moved_place t p s = p ++ place_after_removal (t ∷ []) (s ∷ [])

-- the trees at the child of this index and at its new place, after a child is removed, are equal except for
-- the order of members
abbrev pub MovedPart : Step → DocumentViews → ℕ → DocumentViews → ℕ → ℕ → Type 0
MovedPart t d n e m i =
    (s : Step) → nth_part (node_view d n) i ≡ Some s
    → SameButOrderBelow d (at (node_place d n) s) e (moved_place t (node_place e m) s)

-- the trees at each child, except the removed one, and at its new place are equal except for the order of
-- members
abbrev pub MovedParts : Step → DocumentViews → ℕ → DocumentViews → ℕ → Type 0
MovedParts t d n e m =
    (i : ℕ) (s : Step) → nth_part (node_view d n) i ≡ Some s → (s ≡ t → ⊥)
    → SameButOrderBelow d (at (node_place d n) s) e (moved_place t (node_place e m) s)

-- each member name of a node, except the one of `t`, is a member name of another node
abbrev pub HasNamesBut : Step → DocumentViews → ℕ → DocumentViews → ℕ → Type 0
HasNamesBut t d n e m =
    (i : ℕ) (name : List ℕ) → slice_get (names_in (node_view d n)) i ≡ Some name → (key name ≡ t → ⊥)
    → tree_of e (at (node_place e m) (key name)) ≡ None → ⊥
