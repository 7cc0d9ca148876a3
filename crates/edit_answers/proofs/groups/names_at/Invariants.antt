use Rattle.std.proofs.Common.{◌≡◌, map, take}
use Rattle.edit_answers.specs.Groups.{names_at}
use Rattle.edit_answers.proofs.groups.names_at.Given as goal

abbrev pub invariant-loop-lookup : goal.invariant-loop-lookup
invariant-loop-lookup l = map (λ n. n.now) l.names.items ≡ names_at (take l.lookup-index l.found) l.address
