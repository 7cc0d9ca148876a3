use Rattle.std.proofs.Common.{◌≡◌, map, take}
use Rattle.std.specs.Prelude.{string_bytes}
use Rattle.edit_shown.specs.Markdown.{member_cell}
use Rattle.edit_shown.proofs.markdown.groups.joined_names.Given as goal

abbrev pub invariant-loop-member : goal.invariant-loop-member
invariant-loop-member l =
    map string_bytes l.names.items ≡ map (member_cell l.inputs) (take l.member-index l.members)
