use Rattle.std.proofs.Common.{inl, inr, refl, subst, sym}
use Rattle.std.specs.Prelude.{◌⊎◌, ◌≢◌}
use Rattle.edit_base.specs.Errors.{IsMemory, number_of}
use Rattle.edit_base.specs.declared.errors.Error.TheVariants.{Memory}
use Rattle.edit_base.specs.declared.errors.Error.TheVariants as error_kind
use Rattle.edit_sources.specs.Configured.{given}
use Rattle.edit_steps.proofs.ErrorFields.{failure_has, failure_made}
use Rattle.edit_program.specs.Followed.{IsUnfollowed}
use Rattle.edit_program.specs.Merging.{IsBoundBy}
use Rattle.edit_program.proofs.CountLemmas.{error_counts, memory_counts}
use Rattle.edit_program.proofs.PolicyLemmas.{may_be_planned, unfollowed}
use Rattle.edit_program.proofs.upgrade_run.following.follow_policy.Goals as goal

pub returns-clause-follows : goal.returns-clause-follows
returns-clause-follows c = record {
  policy = c.in_ok-policy.ensures.policy;
  bound = subst
      (IsBoundBy c.args.args.now.published_before (given c.args.args.now.time) c.in_ok-policy.policy.min_age)
      (sym c.in_ok-chosen.ensures.bound) c.in_ok-bound.ensures.bound;
  merged = c.in_ok-chosen.ensures.merged;
  inputs = c.in_ok-set_rust_version.ensures.inputs;
  others = refl;
}

pub returns-clause-planned : goal.returns-clause-planned
returns-clause-planned c =
    may_be_planned c.args.sources.now c.set_rust_version.new.inputs c.in_ok-set_rust_version.ensures.paths
    c.in_ok-set_rust_version.ensures.bytes c.requires.planned

pub returns-in_err-policy-clause-error : goal.returns-in_err-policy-clause-error
returns-in_err-policy-clause-error c =
    let e = c.in_err-policy.field-0.0 in
    failure_has c.from_residual.result e
    (λ error. IsMemory error ⊎ IsUnfollowed c.args.args.now c.args.sources.now.target error)
    c.from_residual.ensures.1
    (unfollowed c.args.args.now c.args.sources.now.target e.error c.in_err-policy.ensures.error)

pub returns-in_err-policy-clause-counted : goal.returns-in_err-policy-clause-counted
returns-in_err-policy-clause-counted c =
    let e = c.in_err-policy.field-0.0 in
    failure_has c.from_residual.result e (λ error. number_of error ≢ 3) c.from_residual.ensures.1
    c.in_err-policy.ensures.counted

pub returns-in_err-bound-clause-error : goal.returns-in_err-bound-clause-error
returns-in_err-bound-clause-error c =
    failure_has c.from_residual-in_err-bound.result c.in_err-bound.field-0.0
    (λ error. IsMemory error ⊎ IsUnfollowed c.args.args.now c.args.sources.now.target error)
    c.from_residual-in_err-bound.ensures.1
    (inr (inr (record {
      policy = c.in_ok-policy.policy;
      is = c.in_ok-policy.ensures.policy;
      lacks = c.in_err-bound.ensures.error.0;
      cause = c.in_err-bound.ensures.error.1;
    })))

pub returns-in_err-bound-clause-counted : goal.returns-in_err-bound-clause-counted
returns-in_err-bound-clause-counted c =
    let e = c.in_err-bound.field-0.0 in
    failure_has c.from_residual-in_err-bound.result e (λ error. number_of error ≢ 3)
    c.from_residual-in_err-bound.ensures.1
    (error_counts e.error error_kind.Policy c.in_err-bound.ensures.error.1 (λ n. cc n))

pub returns-in_err-chosen-clause-error : goal.returns-in_err-chosen-clause-error
returns-in_err-chosen-clause-error c =
    failure_made c.from_residual-in_err-chosen.result Memory
    (λ error. IsMemory error ⊎ IsUnfollowed c.args.args.now c.args.sources.now.target error)
    c.from_residual-in_err-chosen.ensures.1 (inl refl)

pub returns-in_err-chosen-clause-counted : goal.returns-in_err-chosen-clause-counted
returns-in_err-chosen-clause-counted c =
    failure_made c.from_residual-in_err-chosen.result Memory (λ error. number_of error ≢ 3)
    c.from_residual-in_err-chosen.ensures.1 (memory_counts Memory refl)

pub returns-in_err-set_rust_version-clause-error : goal.returns-in_err-set_rust_version-clause-error
returns-in_err-set_rust_version-clause-error c =
    failure_made c.from_residual-in_err-set_rust_version.result Memory
    (λ error. IsMemory error ⊎ IsUnfollowed c.args.args.now c.args.sources.now.target error)
    c.from_residual-in_err-set_rust_version.ensures.1 (inl refl)

pub returns-in_err-set_rust_version-clause-counted : goal.returns-in_err-set_rust_version-clause-counted
returns-in_err-set_rust_version-clause-counted c =
    failure_made c.from_residual-in_err-set_rust_version.result Memory (λ error. number_of error ≢ 3)
    c.from_residual-in_err-set_rust_version.ensures.1 (memory_counts Memory refl)
