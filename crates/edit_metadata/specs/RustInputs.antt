-- Inputs for another Rust version (own).
use Rattle.std.specs.Prelude.{List, Some, map}
use Rattle.edit_metadata.specs.declared.input.Input.{Input}
use Rattle.edit_version.specs.declared.rust_version.RustVersion.{RustVersion}

-- an input for this Rust version, in place of its own
abbrev pub for_rust : RustVersion → Input → Input
for_rust version i = record i { rust_version = Some version }

-- inputs for this Rust version
abbrev pub all_for_rust : RustVersion → List Input → List Input
all_for_rust version inputs = map (for_rust version) inputs
