use Rattle.std.proofs.Common.{◌≡◌, ◌++◌, map, take}
use Rattle.std.specs.Prelude.{string_bytes}
use Rattle.std.specs.List.{flat_map}
use Rattle.edit_shell.specs.Quoting.{argument_text}
use Rattle.edit_shell.proofs.push_arguments.Given as goal

abbrev pub invariant-loop-argument : goal.invariant-loop-argument
invariant-loop-argument l =
    l.text.items ≡ l.initial.text.items ++ flat_map argument_text (map string_bytes (take l.argument-index l.arguments))
