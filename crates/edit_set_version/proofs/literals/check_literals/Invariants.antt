use Rattle.std.proofs.Common.{All, take}
use Rattle.edit_set_version.specs.Crates.{bumps_view}
use Rattle.edit_set_version.specs.PlanCauses.{HasLiteral}
use Rattle.edit_set_version.proofs.literals.check_literals.Given as goal

abbrev pub invariant-inputs : goal.invariant-inputs
invariant-inputs l = All (HasLiteral (bumps_view l.writing.bumps.now)) (take l.i l.inputs)
