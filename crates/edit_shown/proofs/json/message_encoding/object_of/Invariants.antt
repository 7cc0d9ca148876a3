use Rattle.std.proofs.Common.{◌≡◌, map, take}
use Rattle.std.specs.List.{fold}
use Rattle.serde_json.specs.View.{members_view}
use Rattle.edit_shown.specs.Fields.{member_data}
use Rattle.edit_shown.specs.JsonMessages.{format_member, with_member}
use Rattle.edit_shown.proofs.json.message_encoding.object_of.Given as goal

-- the format's number and the members so far
abbrev pub invariant-loop-member : goal.invariant-loop-member
invariant-loop-member l = members_view l.object.entries
    ≡ fold with_member format_member (map member_data (take l.member-index l.members))
