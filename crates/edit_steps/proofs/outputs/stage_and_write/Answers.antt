-- Nothing is written before all outputs are staged, flushed and verified.
use Rattle.std.proofs.Common.{◌∙◌, ◌++◌}
use Rattle.edit_steps.proofs.ApplyLemmas.{on_failure, on_failure_more, on_success_more, steps_after, stopped_early, stopped_since}
use Rattle.edit_report.specs.Applied.{steps_at, steps_to_prepare}
use Rattle.edit_store.specs.declared.store.StepKind.TheVariants as step
use Rattle.edit_steps.proofs.outputs.stage_and_write.Goals as goal

pub returns-in_err-make_ready-clause-stopped : goal.returns-in_err-make_ready-clause-stopped
returns-in_err-make_ready-clause-stopped g c =
    on_failure _ _ (stopped_early c.args.outputs.now _ _ c.in_err-make_ready.ensures.some
    c.make_ready.ensures.reads.writes c.make_ready.ensures.reads.files)

pub returns-in_err-prepare_all-clause-stopped : goal.returns-in_err-prepare_all-clause-stopped
returns-in_err-prepare_all-clause-stopped g c =
    on_failure _ _ (stopped_early c.args.outputs.now _ _ c.in_err-prepare_all.ensures.some
    (c.prepare_all.ensures.reads.writes ∙ c.make_ready.ensures.reads.writes)
    (λ path. c.prepare_all.ensures.reads.files path ∙ c.make_ready.ensures.reads.files path))

pub returns-clause-stopped : goal.returns-clause-stopped
returns-clause-stopped g c =
    on_failure_more c.write_all.result _ _ (stopped_since c.args.outputs.now _ _ _
    (c.prepare_all.ensures.reads.tells ∙ c.make_ready.ensures.reads.tells)
    (c.prepare_all.ensures.reads.writes ∙ c.make_ready.ensures.reads.writes)
    (λ path. c.prepare_all.ensures.reads.files path ∙ c.make_ready.ensures.reads.files path))
    c.write_all.ensures.stopped

pub returns-clause-steps : goal.returns-clause-steps
returns-clause-steps g c =
    let outputs = c.args.outputs.now in
    let old = g.S.Store.view c.args.files.now in
    let ready = g.S.Store.view c.make_ready.new.files in
    let verified = g.S.Store.view c.prepare_all.new.files in
    let new = g.S.Store.view c.write_all.new.files in
    on_success_more c.write_all.result _ _ (λ writes.
    steps_after (steps_to_prepare outputs) (steps_at step.Verify outputs ++ steps_at step.Write outputs)
    old ready new c.make_ready.ensures.reads.tells c.in_ok-make_ready.ensures.steps
    (steps_after (steps_at step.Verify outputs) (steps_at step.Write outputs) ready verified new
    c.prepare_all.ensures.reads.tells c.in_ok-prepare_all.ensures.steps writes))
    c.write_all.ensures.steps
