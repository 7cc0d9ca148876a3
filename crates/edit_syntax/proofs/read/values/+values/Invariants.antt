use Rattle.std.proofs.Common.{◌+◌, ◌-◌, ◌*◌}
use Rattle.edit_syntax.specs.Reading.{value_at, members_at, elements_at}
use Rattle.edit_syntax.proofs.NotedValues.{Completes}
use Rattle.edit_syntax.proofs.NotedElements.{Fills}
use Rattle.edit_syntax.proofs.read.values.+values.Given as goal

abbrev pub decreases-value : goal.decreases-value
decreases-value l = 4 * l.depth

abbrev pub decreases-pair : goal.decreases-pair
decreases-pair l = 4 * l.depth + 1

abbrev pub decreases-members : goal.decreases-members
decreases-members l = 4 * l.depth + 2

-- whatever is read from here on completes what is read from the start
abbrev pub invariant-members-members : goal.invariant-members-members
invariant-members-members l = Completes (value_at l.depth) (members_at (value_at l.depth) l.count l.s)
    (l.count - l._member) l.rest l.fn.out.items l.out.items

abbrev pub decreases-array : goal.decreases-array
decreases-array l = 4 * l.depth + 3

abbrev pub decreases-inline_table : goal.decreases-inline_table
decreases-inline_table l = 4 * l.depth + 3

abbrev pub decreases-elements : goal.decreases-elements
decreases-elements l = 4 * l.depth + 2

-- whatever is read from here on fills the array that is read from the start
abbrev pub invariant-elements-elements : goal.invariant-elements-elements
invariant-elements-elements l = Fills (value_at l.depth) (elements_at (value_at l.depth) l.count l.s)
    (l.count - l._element) l.rest l.fn.out.items l.out.items
