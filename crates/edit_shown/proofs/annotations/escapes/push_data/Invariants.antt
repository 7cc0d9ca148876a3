use Rattle.std.proofs.Common.{◌≡◌, ◌++◌}
use Rattle.std.specs.Prelude.{string_bytes}
use Rattle.std.specs.List.{flat_map}
use Rattle.edit_shown.specs.Annotations.{data_char}
use Rattle.edit_shown.proofs.annotations.escapes.push_data.Given as goal

abbrev pub invariant-loop-c : goal.invariant-loop-c
invariant-loop-c l = string_bytes l.to ≡ string_bytes l.initial.to ++ flat_map data_char l.yielded
