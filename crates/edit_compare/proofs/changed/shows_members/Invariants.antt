use Rattle.std.proofs.Common.{◌≡◌, ℕ, ◌<◌, List, Some}
use Rattle.std.specs.Prelude.{slice_get}
use Rattle.edit_tree.specs.NewItems.{NewValue}
use Rattle.edit_document.specs.NewItemViews.{new_pair_views}
use Rattle.edit_document.proofs.ShownItems.{ShowsPair}
use Rattle.edit_compare.proofs.changed.shows_members.Given as goal

-- the members so far have their pairs
abbrev pub invariant-members : goal.invariant-members
invariant-members l =
    (i : ℕ) (m : List ℕ × NewValue) → i < l.index → slice_get (new_pair_views l.members) i ≡ Some m
    → ShowsPair l.document l.number i m
