use Rattle.std.proofs.Common.{◌≡◌, map, string_bytes, take}
use Rattle.edit_metadata.specs.Workspaces.{packages_view}
use Rattle.edit_upgrade.specs.Groups.{package_values}
use Rattle.edit_upgrade.specs.UpdateCalls.{from_git}
use Rattle.edit_upgrade.proofs.update.chosen.from_git.Given as goal

abbrev pub invariant-packages : goal.invariant-packages
invariant-packages l = packages_view (package_values l.found.items)
    ≡ from_git (map string_bytes l.fn.names) (packages_view (take l.package-index l.packages))
