use Rattle.std.proofs.Common.{take}
use Rattle.std.specs.Prelude.{All}
use Rattle.edit_base.specs.Errors.{number_of}
use Rattle.edit_steps.specs.Places.{PassesWith}
use Rattle.edit_steps.proofs.inputs.at_input.Given as goal

-- the manifests of the inputs so far are not the cause of the error
abbrev pub invariant-inputs : goal.invariant-inputs
invariant-inputs l = All (PassesWith (number_of l.error)) (take l.input-index l.inputs)
