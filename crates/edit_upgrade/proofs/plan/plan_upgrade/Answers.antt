use Rattle.std.proofs.Common.{◌∙◌}
use Rattle.edit_upgrade.specs.Caches.{cache_view}
use Rattle.edit_upgrade.proofs.CauseLemmas.{inputs-error}
use Rattle.edit_upgrade.proofs.PlannedLemmas.{failure-has}
use Rattle.edit_upgrade.proofs.plan.plan_upgrade.Goals as goal

pub returns-in_err-plan-clause-error : goal.returns-in_err-plan-clause-error
returns-in_err-plan-clause-error g c =
    let f = c.in_err-plan.field-0.0 in
    failure-has c.from_residual.result f.error _ c.from_residual.ensures.1
    (inputs-error c.args.options.now c.args.inputs.now c.args.configs.now
    (cache_view g.I.Index.view c.args.index.now) (cache_view g.I.Index.view c.plan_all.new.index) f
    (c.in_err-plan.ensures.read (c.deref.ensures.value ∙ c.new-documents.ensures.items)))
