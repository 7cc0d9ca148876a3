use Rattle.std.proofs.Common.{◌≡◌, ◌++◌, take}
use Rattle.std.specs.Prelude.{string_bytes}
use Rattle.std.specs.List.{flat_map}
use Rattle.edit_shown.specs.Messages.{row_message}
use Rattle.edit_shown.proofs.messages.push_rows.Given as goal

-- the messages so far
abbrev pub invariant-loop-row : goal.invariant-loop-row
invariant-loop-row l = string_bytes l.text ≡ string_bytes l.initial.text
    ++ flat_map (row_message l.inputs) (take l.row-index l.rows)
