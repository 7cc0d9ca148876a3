use Rattle.std.proofs.Common.{All, take}
use Rattle.edit_set_version.specs.Crates.{bumps_view}
use Rattle.edit_set_version.specs.PlanRefused.{IsInputClearBy}
use Rattle.edit_set_version.specs.Written.{shared_version_view}
use Rattle.edit_set_version.proofs.OutputLists.{AreInARow}
use Rattle.edit_set_version.proofs.outputs.outputs_of.Given as goal

abbrev pub invariant-inputs : goal.invariant-inputs
invariant-inputs l =
    AreInARow l.writing.root.now (shared_version_view l.writing.shared) (bumps_view l.writing.bumps.now)
    (take l.i l.inputs) l.outputs.items
    × All (IsInputClearBy (bumps_view l.writing.bumps.now)) (take l.i l.inputs)
