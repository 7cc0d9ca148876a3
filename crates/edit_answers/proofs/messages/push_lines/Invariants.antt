use Rattle.std.proofs.Common.{◌≡◌, ◌++◌, map, take}
use Rattle.std.specs.Prelude.{string_bytes}
use Rattle.std.specs.List.{flat_map}
use Rattle.edit_answers.specs.Groups.{group_text}
use Rattle.edit_answers.specs.Messages.{line_of}
use Rattle.edit_answers.proofs.messages.push_lines.Given as goal

abbrev pub invariant-loop-group : goal.invariant-loop-group
invariant-loop-group l =
    string_bytes l.text ≡ string_bytes l.initial.text
    ++ flat_map (line_of l.standing) (map group_text (take l.group-index l.groups))
