use Rattle.std.proofs.Common.{◌≡◌, ◌++◌, take}
use Rattle.std.specs.Prelude.{string_bytes}
use Rattle.std.specs.List.{flat_map}
use Rattle.edit_shown.specs.Messages.{warning_message}
use Rattle.edit_shown.proofs.messages.push_warnings.Given as goal

-- the messages so far
abbrev pub invariant-loop-warning : goal.invariant-loop-warning
invariant-loop-warning l = string_bytes l.text ≡ string_bytes l.initial.text
    ++ flat_map (warning_message l.inputs) (take l.warning-index l.warnings)
