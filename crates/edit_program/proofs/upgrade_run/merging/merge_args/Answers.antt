use Rattle.std.proofs.Common.{refl, subst}
use Rattle.edit_program.specs.Merging.{AreSameRows}
use Rattle.edit_program.proofs.upgrade_run.merging.merge_args.Goals as goal

pub returns-clause-merged : goal.returns-clause-merged
returns-clause-merged c = record {
  options = c.in_ok-options.ensures;
  rows = subst (λ rows. AreSameRows rows c.in_ok-rows.rows) c.as_ref.ensures.value c.in_ok-rows.ensures;
  others = refl;
}
