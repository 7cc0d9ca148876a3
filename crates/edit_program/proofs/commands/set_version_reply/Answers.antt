use Rattle.std.proofs.Common.{◌∙◌, inr}
use Rattle.edit_steps.proofs.ErrorFields.{failure_has}
use Rattle.edit_program.proofs.commands.set_version_reply.Goals as goal

pub returns-in_err-effects-clause-why : goal.returns-in_err-effects-clause-why
returns-in_err-effects-clause-why g c =
    failure_has c.from_residual-in_err-effects.result c.in_err-effects.field-0.0 _ c.from_residual-in_err-effects.ensures.1 (inr (record {
      args = c.in-Ok.args;
      asks = c.in-Ok.ensures.asks;
      cause = c.in_err-effects.ensures.why;
    }))

pub returns-clause-reply : goal.returns-clause-reply
returns-clause-reply g c = record {
  args = c.in-Ok.args;
  asks = c.in-Ok.ensures.asks;
  check = c.in_ok-effects.ensures.check ∙ c.is_given-check.ensures;
  effects = c.in_ok-effects.ensures.effects;
}

pub returns-in-Err-Fault-clause-reply : goal.returns-in-Err-Fault-clause-reply
returns-in-Err-Fault-clause-reply g c =
    c.in-Err-Fault.ensures.error (λ same. cc (same, c.in-Err-Fault.field-0-is))
