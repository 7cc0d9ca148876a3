use Rattle.std.proofs.Common.{◌≡◌, ◌++◌, map}
use Rattle.edit_metadata.specs.Workspaces.{packages_view}
use Rattle.edit_upgrade.specs.PinViews.{pin_entry_view, pins_view}
use Rattle.edit_upgrade.specs.UpdateCalls.{precise_calls}
use Rattle.edit_upgrade.specs.Views.{calls_view}
use Rattle.edit_upgrade.proofs.update.precise.precise_calls.Given as goal

abbrev pub invariant-pins : goal.invariant-pins
invariant-pins l = calls_view l.calls.items
    ++ precise_calls l.manifest (packages_view l.packages) (map pin_entry_view l.name-iterator)
    ≡ precise_calls l.manifest (packages_view l.packages) (pins_view l.fn.pins)
