use Rattle.std.proofs.Common.{◌≡◌, ◌≤◌, take}
use Rattle.edit_report.specs.Applied.{AreWritten, steps_at}
use Rattle.edit_store.specs.Store.{AreStepsTaken}
use Rattle.edit_store.specs.declared.store.StepKind.TheVariants as step
use Rattle.edit_steps.proofs.outputs.write_all.Given as goal

abbrev pub invariant-loop-output : goal.invariant-loop-output
invariant-loop-output g l = record {
  tells : (g.S.Store.view l.files).tells ≡ (g.S.Store.view l.initial.files).tells;
  later : (g.S.Store.view l.initial.files).faults ≤ (g.S.Store.view l.files).faults;
  written : AreWritten (take l.output-index l.outputs) (g.S.Store.view l.initial.files)
      (g.S.Store.view l.files);
  steps : AreStepsTaken (steps_at step.Write (take l.output-index l.outputs))
      (g.S.Store.view l.initial.files) (g.S.Store.view l.files);
  ready : (g.S.Store.view l.files).stage_errors ≡ (g.S.Store.view l.initial.files).stage_errors;
}
