use Rattle.std.proofs.Common.{subst, sym}
use Rattle.std.specs.Prelude.{option_copied}
use Rattle.edit_program.specs.Followed.{HasFaultIn}
use Rattle.edit_program.proofs.PolicyLemmas.{fault_counts}
use Rattle.edit_program.proofs.upgrade_run.policy_reading.policy_in.Goals as goal

pub returns-in-Err-clause-error : goal.returns-in-Err-clause-error
returns-in-Err-clause-error c =
    let own = c.in-Err.error in
    let e = c.explain_policy.result.error in
    subst (λ root. HasFaultIn (option_copied root) e) (sym c.in-Some.is)
    (own, c.in-Err.ensures.error, c.explain_policy.ensures)

pub returns-in-Err-clause-counted : goal.returns-in-Err-clause-counted
returns-in-Err-clause-counted c =
    fault_counts c.in-Some.input.now.bytes.items c.in-Err.error c.explain_policy.result.error c.in-Err.ensures.error
    c.explain_policy.ensures
