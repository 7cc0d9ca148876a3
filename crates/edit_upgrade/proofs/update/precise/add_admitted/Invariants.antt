use Rattle.std.proofs.Common.{◌≡◌, ◌++◌, take}
use Rattle.edit_metadata.specs.Workspaces.{packages_view}
use Rattle.edit_upgrade.specs.Groups.{package_values}
use Rattle.edit_upgrade.specs.PinViews.{pin_view}
use Rattle.edit_upgrade.specs.UpdateCalls.{admitted_calls}
use Rattle.edit_upgrade.specs.Views.{calls_view}
use Rattle.edit_upgrade.proofs.update.precise.add_admitted.Given as goal

abbrev pub invariant-packages : goal.invariant-packages
invariant-packages l = calls_view l.calls.items ≡ calls_view l.initial.calls.items
    ++ admitted_calls l.manifest (pin_view l.pin) (packages_view (package_values (take l.package-index l.packages)))
