use Rattle.std.proofs.Common.{◌∙◌, arith, refl, subst}
use Rattle.edit_steps.proofs.ApplyLemmas.{steps_more, steps_none, stopped_at, written_more, written_none}
use Rattle.edit_report.specs.Applied.{IsWhole, path_of}
use Rattle.edit_report.specs.declared.output.Output.{Output}
use Rattle.edit_store.specs.Store.{IsStepTaken, IsWrittenAtMostOnce, IsWrittenOnce, SameBut}
use Rattle.edit_store.specs.declared.store.StepKind.TheVariants as step
use Rattle.edit_steps.proofs.outputs.write_all.Goals as goal

pub returns-in-Err-clause-stopped : goal.returns-in-Err-clause-stopped
returns-in-Err-clause-stopped g c =
    let mid = g.S.Store.view c.loop-output.files in
    let new = g.S.Store.view c.write_output.new.files in
    stopped_at c.args.outputs.now c.loop-output.output-index c.output-item.result
    (g.S.Store.view c.args.files.now) mid new c.requires (omega arith) c.loop-output.invariant.written
    (subst (λ (o : Output). SameBut (path_of o) mid.file_at new.file_at) c.output-item.is
    c.write_output.ensures.others)
    (subst (λ (o : Output). IsWrittenAtMostOnce (path_of o) mid new) c.output-item.is
    c.in-Err.ensures.at_most_once)

pub loop-output-init : goal.loop-output-init
loop-output-init g c = record {
  tells = refl;
  later = omega arith;
  written = written_none (g.S.Store.view c.args.files.now);
  steps = steps_none (g.S.Store.view c.args.files.now);
  ready = refl;
}

pub loop-output-preserved : goal.loop-output-preserved
loop-output-preserved g c =
    let mid = g.S.Store.view c.loop-output.files in
    let new = g.S.Store.view c.write_output.new.files in
    record {
      tells = c.write_output.ensures.tells ∙ c.loop-output.invariant.tells;
      later = omega (arith, c.write_output.ensures.later, c.loop-output.invariant.later);
      written = written_more c.args.outputs.now c.loop-output.output-index c.output-item.result
          (g.S.Store.view c.args.files.now) mid new c.requires (omega arith) c.loop-output.invariant.tells
          c.loop-output.invariant.written
          (λ t. subst (IsWhole new.file_at) c.output-item.is (c.in-Ok.ensures.written t))
          (subst (λ (o : Output). SameBut (path_of o) mid.file_at new.file_at) c.output-item.is
          c.write_output.ensures.others)
          (subst (λ (o : Output). IsWrittenOnce (path_of o) mid new) c.output-item.is
          c.in-Ok.ensures.once);
      steps = steps_more step.Write c.args.outputs.now c.loop-output.output-index c.output-item.result
          (g.S.Store.view c.args.files.now) mid new (omega arith) c.loop-output.invariant.tells
          c.loop-output.invariant.steps
          (subst (λ (o : Output). IsStepTaken step.Write (path_of o) mid new) c.output-item.is
          c.in-Ok.ensures.step);
      ready = c.write_output.ensures.ready ∙ c.loop-output.invariant.ready;
    }
