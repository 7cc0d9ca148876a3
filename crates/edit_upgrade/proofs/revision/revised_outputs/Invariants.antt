use Rattle.edit_upgrade.proofs.RevisedInputs.{IsRevisedUpTo}
use Rattle.edit_upgrade.proofs.revision.revised_outputs.Given as goal

-- the outputs of the inputs so far, and the rows of the next ones
abbrev pub invariant-inputs : goal.invariant-inputs
invariant-inputs l = IsRevisedUpTo l.inputs l.rows l.i l.rest l.all.items
