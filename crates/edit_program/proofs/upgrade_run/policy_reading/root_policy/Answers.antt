use Rattle.std.proofs.Common.{inl, inr}
use Rattle.std.proofs.lemmas.Result.{IfErr-weaker, IfOk-weaker}
use Rattle.std.specs.Prelude.{◌⊎◌, ◌≢◌, option_copied}
use Rattle.edit_base.specs.Errors.{IsMemory, number_of}
use Rattle.edit_steps.proofs.ErrorFields.{failure_made}
use Rattle.edit_program.specs.Followed.{HasRootFault}
use Rattle.edit_program.proofs.CountLemmas.{memory_counts}
use Rattle.edit_program.proofs.PolicyLemmas.{root_of}
use Rattle.edit_program.proofs.upgrade_run.policy_reading.root_policy.Goals as goal

pub returns-in_err-root-clause-error : goal.returns-in_err-root-clause-error
returns-in_err-root-clause-error c =
    failure_made c.from_residual.result c.in_err-root.field-0.0
    (λ e. IsMemory e ⊎ HasRootFault c.args.target.now e) c.from_residual.ensures.1
    (inl c.in_err-root.ensures.error)

pub returns-in_err-root-clause-counted : goal.returns-in_err-root-clause-counted
returns-in_err-root-clause-counted c =
    failure_made c.from_residual.result c.in_err-root.field-0.0 (λ e. number_of e ≢ 3)
    c.from_residual.ensures.1 (memory_counts c.in_err-root.field-0.0 c.in_err-root.ensures.error)

pub returns-clause-policy : goal.returns-clause-policy
returns-clause-policy c =
    let root = option_copied c.in_ok-root.root in
    let is = root_of c.args.target.now c.as_ref.result c.as_slice.result.now root c.as_ref.ensures.value
    c.as_slice.ensures.value c.in_ok-root.ensures.root in
    IfOk-weaker c.policy_in.result _ _ (λ p h. (root, is, h)) c.policy_in.ensures.policy

pub returns-clause-error : goal.returns-clause-error
returns-clause-error c =
    let root = option_copied c.in_ok-root.root in
    let is = root_of c.args.target.now c.as_ref.result c.as_slice.result.now root c.as_ref.ensures.value
    c.as_slice.ensures.value c.in_ok-root.ensures.root in
    IfErr-weaker c.policy_in.result _ _ (λ r h. inr (root, is, h)) c.policy_in.ensures.error
