use Rattle.std.proofs.Common.{◌≡◌, ◌++◌, take}
use Rattle.std.specs.Prelude.{string_bytes}
use Rattle.std.specs.List.{flat_map}
use Rattle.edit_shown.specs.Messages.{file_message}
use Rattle.edit_shown.proofs.messages.push_files.Given as goal

-- the messages so far
abbrev pub invariant-loop-output : goal.invariant-loop-output
invariant-loop-output l = string_bytes l.text ≡ string_bytes l.initial.text
    ++ flat_map (file_message l.options) (take l.output-index l.outputs)
