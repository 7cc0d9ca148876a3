use Rattle.std.proofs.Common.{take}
use Rattle.std.specs.Prelude.{Contains}
use Rattle.edit_metadata.specs.Inputs.{input_paths}
use Rattle.edit_set_version.proofs.project.root_at.Given as goal

abbrev pub invariant-inputs : goal.invariant-inputs
invariant-inputs l = Contains (input_paths (take l.i l.inputs)) l.path → ⊥
