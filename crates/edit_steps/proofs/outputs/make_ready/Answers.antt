-- All are staged, and then all are flushed.
use Rattle.edit_steps.proofs.ApplyLemmas.{on_success_more, steps_after}
use Rattle.edit_report.specs.Applied.{steps_at}
use Rattle.edit_store.specs.declared.store.StepKind.TheVariants as step
use Rattle.edit_steps.proofs.outputs.make_ready.Goals as goal

pub returns-clause-steps : goal.returns-clause-steps
returns-clause-steps g c =
    let outputs = c.args.outputs.now in
    on_success_more c.prepare_all-2.result _ _ (λ flushed.
    steps_after (steps_at step.Stage outputs) (steps_at step.Flush outputs)
    (g.S.Store.view c.args.files.now) (g.S.Store.view c.prepare_all.new.files)
    (g.S.Store.view c.prepare_all-2.new.files) c.prepare_all.ensures.reads.tells
    c.in_ok-prepare_all.ensures.steps flushed)
    c.prepare_all-2.ensures.steps
