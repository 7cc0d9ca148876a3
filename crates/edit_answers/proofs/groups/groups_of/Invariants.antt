use Rattle.std.proofs.Common.{map, take}
use Rattle.edit_answers.specs.Groups.{AreGroupsOf, firsts, group_text}
use Rattle.edit_answers.proofs.groups.groups_of.Given as goal

-- the groups whose first lookup was passed
abbrev pub invariant-loop-i : goal.invariant-loop-i
invariant-loop-i l = AreGroupsOf l.found (firsts (take l.i l.found)) (map group_text l.groups.items)
