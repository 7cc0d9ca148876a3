use Rattle.std.specs.List.{AllZip}
use Rattle.edit_unify.proofs.UnifyLemmas.{IsTurn}
use Rattle.edit_unify.proofs.rows.unify_rows.Given as goal

-- the rows so far, with the texts that they take
abbrev pub invariant-rows : goal.invariant-rows
invariant-rows l = AllZip IsTurn l.yielded l.unified.items
