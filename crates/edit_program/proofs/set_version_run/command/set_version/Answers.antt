use Rattle.std.proofs.Common.{◌≢◌, inl, inr, subst, sym}
use Rattle.std.specs.Prelude.{length, not, ◌==◌}
use Rattle.edit_metadata.specs.Workspaces.{workspace_view}
use Rattle.edit_report.specs.Applied.{HaveDistinctPaths, path_of}
use Rattle.edit_set_version.specs.Planned.{outputs_at}
use Rattle.edit_steps.proofs.DistinctPaths.{none_differ, outputs_differ}
use Rattle.edit_steps.proofs.ErrorFields.{failure_has}
use Rattle.edit_program.proofs.SetVersionLemmas.{workspace_cause}
use Rattle.edit_program.proofs.set_version_run.command.set_version.Goals as goal

pub returns-in_err-read-clause-why : goal.returns-in_err-read-clause-why
returns-in_err-read-clause-why g c =
    failure_has c.from_residual.result c.in_err-read.field-0.0 _
    c.from_residual.ensures.1
    (workspace_cause c.args.args.now c.args.current.now (g.S.Store.view c.args.files.now)
    (g.S.Store.view c.read_workspace.new.files) c.in_err-read.field-0.0.error
    c.in_err-read.ensures.reads.files c.in_err-read.ensures.error c.in_err-read.ensures.only)

pub returns-in_ok-plan_effects-in-Ok-clause-effects : goal.returns-in_ok-plan_effects-in-Ok-clause-effects
returns-in_ok-plan_effects-in-Ok-clause-effects g c = record {
  calls = c.in_ok-plan_effects-in-Ok.ensures.quiet.0;
  files = c.in_ok-plan_effects-in-Ok.ensures.quiet.1;
  ends = inl (record {
    workspace = workspace_view c.in_ok-read.read.workspace;
    inputs = c.in_ok-read.read.inputs.items;
    plan = c.in-Ok.plan;
    read = c.in_ok-read.ensures.workspace;
    planned = c.in-Ok.ensures.planned;
    texts = c.in_ok-plan_effects-in-Ok.ensures.texts;
  });
}

pub returns-in-Err-clause-effects : goal.returns-in-Err-clause-effects
returns-in-Err-clause-effects g c = record {
  calls = c.failed_effects.ensures.quiet.0;
  files = c.failed_effects.ensures.quiet.1;
  ends = inr (record {
    workspace = workspace_view c.in_ok-read.read.workspace;
    inputs = c.in_ok-read.read.inputs.items;
    failure = c.in-Err.failure;
    read = c.in_ok-read.ensures.workspace;
    fails = c.failed_effects.ensures.fails;
    cause = c.in-Err.ensures.error;
    uncounted = c.in-Err.ensures.counted;
    outputs = c.failed_effects.ensures.writes;
  });
}

pub returns-in_ok-plan_effects-in-Ok-clause-own : goal.returns-in_ok-plan_effects-in-Ok-clause-own
returns-in_ok-plan_effects-in-Ok-clause-own g c =
    let outputs = c.in-Ok.plan.outputs.items in (
      subst HaveDistinctPaths (sym c.in_ok-plan_effects-in-Ok.ensures.texts.outputs)
          (outputs_differ (λ path. not (length (outputs_at path outputs) == 0)) c.in_ok-read.read.inputs.items
          outputs c.in_ok-read.ensures.paths c.in-Ok.ensures.planned.is.holds.in_order),
      subst HaveDistinctPaths (sym c.in_ok-plan_effects-in-Ok.ensures.quiet.1)
          (none_differ (λ a b. path_of a ≢ path_of b)),
    )
