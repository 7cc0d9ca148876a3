use Rattle.std.proofs.Common.{◌≡◌, None, replicate}
use Rattle.edit_answers.proofs.answers.no_answers.Given as goal

abbrev pub invariant-loop-i : goal.invariant-loop-i
invariant-loop-i l = l.table.items ≡ replicate l.i None
