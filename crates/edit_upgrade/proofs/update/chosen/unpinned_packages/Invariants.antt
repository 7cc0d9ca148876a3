use Rattle.std.proofs.Common.{◌≡◌, map, string_bytes, take}
use Rattle.edit_metadata.specs.Workspaces.{packages_view}
use Rattle.edit_upgrade.specs.Groups.{package_values}
use Rattle.edit_upgrade.specs.PinViews.{pins_view}
use Rattle.edit_upgrade.specs.UpdateCalls.{unpinned_packages}
use Rattle.edit_upgrade.proofs.update.chosen.unpinned_packages.Given as goal

abbrev pub invariant-packages : goal.invariant-packages
invariant-packages l = packages_view (package_values l.found.items)
    ≡ unpinned_packages (pins_view l.pins) (map string_bytes l.fn.names) (packages_view (take l.package-index l.packages))
