use Rattle.std.proofs.Common.{length, ◌+◌, ◌-◌, ◌*◌}
use Rattle.json.specs.Lex.{tokens}
use Rattle.edit_json.specs.Taken.{Takes}
use Rattle.edit_json.proofs.TakenValueLemmas.{HasReadItems, HasReadMembers}
use Rattle.edit_json.proofs.skipped_value.+skip_value.Given as goal

abbrev pub decreases-skip_value : goal.decreases-skip_value
decreases-skip_value l = 2 * l.depth + 1

abbrev pub decreases-skip_array : goal.decreases-skip_array
decreases-skip_array l = 2 * l.depth

abbrev pub decreases-skip_object : goal.decreases-skip_object
decreases-skip_object l = 2 * l.depth

abbrev pub invariant-skip_array-loop-after : goal.invariant-skip_array-loop-after
invariant-skip_array-loop-after l = Takes (HasReadItems (l.depth - 1)) l.initial.rest l.rest

abbrev pub decreases-skip_array-loop-after : goal.decreases-skip_array-loop-after
decreases-skip_array-loop-after l = length (tokens l.rest)

abbrev pub invariant-skip_object-loop-after : goal.invariant-skip_object-loop-after
invariant-skip_object-loop-after l = Takes (HasReadMembers (l.depth - 1)) l.initial.rest l.rest

abbrev pub decreases-skip_object-loop-after : goal.decreases-skip_object-loop-after
decreases-skip_object-loop-after l = length (tokens l.rest)
