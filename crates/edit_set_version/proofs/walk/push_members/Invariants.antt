use Rattle.std.proofs.Common.{◌≡◌, List, take}
use Rattle.std.specs.Prelude.{All}
use Rattle.edit_set_version.specs.Crates.{members_of}
use Rattle.edit_set_version.specs.BumpsByFolder.{HasFirstBumps}
use Rattle.edit_set_version.specs.PlanCauses.{AllRiseIn}
use Rattle.edit_set_version.specs.SetVersioned.{Bump}
use Rattle.edit_set_version.specs.LineViews.{line_lists_view, other_manifests, with_manifests}
use Rattle.edit_set_version.proofs.walk.push_members.Given as goal

abbrev pub invariant-members : goal.invariant-members
invariant-members l = (bs : List Bump) → HasFirstBumps bs l.numbers
    → (line_lists_view l.lists.items
    ≡ with_manifests bs (other_manifests l.root (members_of (take l.found-index l.crates))) 0
    (line_lists_view l.initial.lists.items))
    × All (AllRiseIn bs) (other_manifests l.root (members_of (take l.found-index l.crates)))
