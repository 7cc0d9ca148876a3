use Rattle.std.proofs.Common.{◌≡◌, ◌++◌, take}
use Rattle.std.specs.List.{flat_map}
use Rattle.edit_upgrade.specs.Views.{args_view}
use Rattle.edit_program.specs.CallsFile.{arg_line}
use Rattle.edit_program.proofs.upgrade_output.calls_file.push_call.Given as goal

-- the text so far has the arguments so far
abbrev pub invariant-loop-arg : goal.invariant-loop-arg
invariant-loop-arg l = l.text.items
    ≡ l.initial.text.items ++ flat_map arg_line (args_view (take l.arg-index l.call))
