use Rattle.std.proofs.Common.{◌≡◌, replicate}
use Rattle.std.specs.Prelude.{codes}
use Rattle.edit_base.specs.Paths.{texts}
use Rattle.edit_base.proofs.paths.steps_up.Given as goal

abbrev pub invariant-loop-i : goal.invariant-loop-i
invariant-loop-i l = texts l.steps.items ≡ replicate l.i (codes "..")
