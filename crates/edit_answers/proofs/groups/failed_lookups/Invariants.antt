use Rattle.std.proofs.Common.{◌≡◌, take}
use Rattle.edit_answers.specs.Groups.{failed_lookups}
use Rattle.edit_answers.proofs.groups.failed_lookups.Given as goal

abbrev pub invariant-loop-pair : goal.invariant-loop-pair
invariant-loop-pair l = l.found.items ≡ failed_lookups l.standing l.offline (take l.pair-index l.pairs)
