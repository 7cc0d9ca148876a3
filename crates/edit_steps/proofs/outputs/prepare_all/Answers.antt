-- Each call takes one output more through the step.
use Rattle.std.proofs.Common.{arith, subst}
use Rattle.edit_steps.proofs.ApplyLemmas.{prepared_more, prepared_none}
use Rattle.edit_report.specs.Applied.{path_of}
use Rattle.edit_report.specs.declared.output.Output.{Output}
use Rattle.edit_store.specs.Store.{IsStepTaken}
use Rattle.edit_steps.proofs.outputs.prepare_all.Goals as goal

pub loop-output-init : goal.loop-output-init
loop-output-init g c = prepared_none c.args.kind (g.S.Store.view c.args.files.now)

pub loop-output-preserved : goal.loop-output-preserved
loop-output-preserved g c =
    let mid = g.S.Store.view c.loop-output.files in
    let new = g.S.Store.view c.prepare_output.new.files in
    let reads = c.prepare_output.ensures.reads in
    prepared_more c.args.kind c.args.outputs.now c.loop-output.output-index c.output-item.result
    (g.S.Store.view c.args.files.now) mid new (omega arith) c.loop-output.invariant
    reads.tells reads.files reads.writes reads.later c.in_ok-prepare_output.ensures.ready
    (subst (λ (o : Output). IsStepTaken c.args.kind (path_of o) mid new) c.output-item.is
    c.in_ok-prepare_output.ensures.step)
