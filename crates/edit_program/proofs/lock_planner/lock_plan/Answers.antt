use Rattle.std.proofs.Common.{inr}
use Rattle.edit_steps.proofs.ErrorFields.{failure_has}
use Rattle.edit_program.proofs.lock_planner.lock_plan.Goals as goal

pub returns-in_err-planned-clause-why : goal.returns-in_err-planned-clause-why
returns-in_err-planned-clause-why g c =
    failure_has c.from_residual-in_err-planned.result c.in_err-planned.field-0.0 _ c.from_residual-in_err-planned.ensures.1 (inr (record {
      args = c.in-Ok.args;
      asks = c.in-Ok.ensures.asks;
      cause = c.in_err-planned.ensures.why;
    }))

pub returns-clause-planned : goal.returns-clause-planned
returns-clause-planned g c t = record {
  args = c.in-Ok.args;
  asks = c.in-Ok.ensures.asks;
  planned = c.in_ok-planned.ensures.planned t;
}

pub returns-in-Err-Fault-clause-fault : goal.returns-in-Err-Fault-clause-fault
returns-in-Err-Fault-clause-fault g c none =
    c.in-Err-Fault.ensures.error (λ same. cc (same, c.in-Err-Fault.field-0-is))
