use Rattle.std.proofs.Common.{◌≡◌, ◌++◌, map, take}
use Rattle.std.specs.Prelude.{string_bytes}
use Rattle.edit_shown.specs.Messages.{changes, line_texts}
use Rattle.edit_shown.proofs.changes.push_changes.Given as goal

-- the messages so far
abbrev pub invariant-loop-line : goal.invariant-loop-line
invariant-loop-line l = string_bytes l.text
    ≡ string_bytes l.initial.text ++ changes (map line_texts (take l.line-index l.lines))
