use Rattle.std.proofs.Common.{◌≡◌, map, take}
use Rattle.edit_metadata.specs.Metadata.{members}
use Rattle.edit_metadata.specs.Workspaces.{package_view, packages_view}
use Rattle.edit_set_version.proofs.crates.members_in.Given as goal

abbrev pub invariant-packages : goal.invariant-packages
invariant-packages l = map (λ p. package_view p.now) l.list.items
    ≡ members (packages_view (take l.found-index l.packages))
