use Rattle.std.proofs.Common.{◌≡◌, drop}
use Rattle.std.specs.Prelude.{find}
use Rattle.edit_tree.specs.Assertions.{same_bytes}
use Rattle.edit_document.specs.NewItemViews.{new_pair_views}
use Rattle.edit_document.proofs.entry_part.first_named.Given as goal

-- the first of the name is among those that are left, or there is none
abbrev pub invariant-members : goal.invariant-members
invariant-members l =
    find (λ m. same_bytes m.0 l.name) (new_pair_views l.members)
    ≡ find (λ m. same_bytes m.0 l.name) (new_pair_views (drop l.member-index l.members))
