use Rattle.std.proofs.Common.{subst, sym, length}
use Rattle.std.specs.Prelude.{◌==◌, not}
use Rattle.edit_report.specs.Applied.{HaveDistinctPaths}
use Rattle.edit_set_version.specs.Planned.{outputs_at}
use Rattle.edit_steps.proofs.DistinctPaths.{outputs_differ}
use Rattle.edit_calls.proofs.plans.print_plan_result.Goals as goal

pub write_outputs-requires : goal.write_outputs-requires
write_outputs-requires c =
    let os = c.in_ok-plan.plan.outputs.items in
    subst HaveDistinctPaths (sym c.deref.ensures.value)
    (outputs_differ (λ path. not (length (outputs_at path os) == 0)) c.args.read.now.inputs.items os
    c.requires.paths c.in_ok-plan.ensures)
