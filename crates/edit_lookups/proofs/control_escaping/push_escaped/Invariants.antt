use Rattle.std.proofs.Common.{◌≡◌, ◌++◌}
use Rattle.std.specs.Prelude.{string_bytes}
use Rattle.std.specs.List.{flat_map}
use Rattle.edit_lookups.specs.ControlEscapes.{escaped_char}
use Rattle.edit_lookups.proofs.control_escaping.push_escaped.Given as goal

abbrev pub invariant-loop-c : goal.invariant-loop-c
invariant-loop-c l = string_bytes l.to ≡ string_bytes l.initial.to ++ flat_map escaped_char l.yielded
