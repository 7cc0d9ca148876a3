use Rattle.std.proofs.Common.{◌≡◌}
use Rattle.edit_metadata.specs.RustInputs.{all_for_rust}
use Rattle.edit_metadata.proofs.rust_inputs.for_rust_version.Given as goal

abbrev pub invariant-inputs : goal.invariant-inputs
invariant-inputs l = l.all.items ≡ all_for_rust l.version l.yielded
