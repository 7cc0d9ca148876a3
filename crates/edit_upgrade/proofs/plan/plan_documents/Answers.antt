use Rattle.std.proofs.Common.{ap, length, sym, ◌∙◌}
use Rattle.std.proofs.lemmas.List.{length-map}
use Rattle.edit_tree.specs.DocumentViews.{DocumentViews}
use Rattle.edit_metadata.specs.declared.input.Input.{Input}
use Rattle.edit_upgrade.specs.Caches.{cache_view}
use Rattle.edit_upgrade.proofs.CauseLemmas.{documents-error}
use Rattle.edit_upgrade.proofs.PlannedLemmas.{failure-has}
use Rattle.edit_upgrade.proofs.plan.plan_documents.Goals as goal

pub returns-in_err-plan-clause-error : goal.returns-in_err-plan-clause-error
returns-in_err-plan-clause-error g c =
    let f = c.in_err-plan.field-0.0 in
    let long = sym (length-map c.args.documents.now (λ (d : DocumentViews). d.bytes))
    ∙ ap length c.requires.documents
    ∙ length-map c.args.inputs.now (λ (input : Input). input.bytes.items) in
    failure-has c.from_residual.result f.error _ c.from_residual.ensures.1
    (documents-error c.args.options.now c.args.inputs.now c.args.configs.now
    (cache_view g.I.Index.view c.args.index.now) (cache_view g.I.Index.view c.plan_all.new.index) f
    (c.in_err-plan.ensures.given long))
