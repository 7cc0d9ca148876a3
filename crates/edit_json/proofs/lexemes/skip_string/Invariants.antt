use Rattle.std.proofs.Common.{length}
use Rattle.edit_json.specs.Passed.{Passed}
use Rattle.edit_json.specs.Taken.{Takes}
use Rattle.edit_json.proofs.lexemes.skip_string.Given as goal

abbrev pub invariant-loop-rest : goal.invariant-loop-rest
invariant-loop-rest l = Takes Passed l.text l.rest

abbrev pub decreases-loop-rest : goal.decreases-loop-rest
decreases-loop-rest l = length l.rest
