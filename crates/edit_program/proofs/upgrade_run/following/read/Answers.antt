use Rattle.std.proofs.Common.{◌≡◌, inl, refl, true}
use Rattle.std.specs.Prelude.{◌⊎◌}
use Rattle.edit_sources.specs.Configured.{given}
use Rattle.edit_steps.proofs.ErrorFields.{failure_has}
use Rattle.edit_steps.proofs.ReadLemmas.{before}
use Rattle.edit_steps.specs.Causes.{IsFailure, IsReadCause}
use Rattle.edit_steps.specs.Faults.{CountsFault}
use Rattle.edit_steps.specs.Sources.{IsIndexOf}
use Rattle.edit_program.specs.Followed.{HasBadPolicy, HasNoUpgradeIndex}
use Rattle.edit_program.specs.LockRead.{HasNoLock}
use Rattle.edit_program.specs.Planned.{to_request}
use Rattle.edit_program.proofs.CountLemmas.{fault_before}
use Rattle.edit_program.proofs.PolicyLemmas.{index_refused, policy_refused}
use Rattle.edit_program.proofs.UpgradeErrorLemmas.{file_error, index_error, policy_error}
use Rattle.edit_program.specs.UpgradeErrors.{IsReadingError}
use Rattle.edit_program.proofs.upgrade_run.following.read.Goals as goal

pub returns-in_err-sources-clause-error : goal.returns-in_err-sources-clause-error
returns-in_err-sources-clause-error g c =
    let args = c.args.args.now in
    let current = c.args.current.now in
    let home = given c.args.cargo_home in
    let old = g.S.Store.view c.args.files.now in
    let new = g.S.Store.view c.read_files.new.files in
    let e = c.in_err-sources.field-0.0 in
    failure_has c.from_residual.result e
    (λ error. (IsReadCause current home (to_request args) old new error
    ⊎ (old.tells ≡ true → HasNoLock args.to_lockfile old.file_at current (given args.lock_file) error))
    ⊎ (old.tells ≡ true → HasBadPolicy args current home old.file_at error
    ⊎ HasNoUpgradeIndex args current home old.file_at error))
    c.from_residual.ensures.1 (inl c.in_err-sources.ensures.error)

pub returns-in_err-sources-clause-counted : goal.returns-in_err-sources-clause-counted
returns-in_err-sources-clause-counted g c =
    let old = g.S.Store.view c.args.files.now in
    let new = g.S.Store.view c.read_files.new.files in
    failure_has c.from_residual.result c.in_err-sources.field-0.0 (λ error. CountsFault old new error)
    c.from_residual.ensures.1 c.in_err-sources.ensures.counted

pub returns-in_err-sources-clause-only : goal.returns-in_err-sources-clause-only
returns-in_err-sources-clause-only g c =
    let args = c.args.args.now in
    let current = c.args.current.now in
    let old = g.S.Store.view c.args.files.now in
    let new = g.S.Store.view c.read_files.new.files in
    let e = c.in_err-sources.field-0.0 in
    failure_has c.from_residual.result e
    (λ error. IsFailure old new error ⊎ IsReadingError args current error)
    c.from_residual.ensures.1 (file_error args current old new e.error c.in_err-sources.ensures.only)

pub returns-in_err-policy-clause-error : goal.returns-in_err-policy-clause-error
returns-in_err-policy-clause-error g c =
    let args = c.args.args.now in
    let current = c.args.current.now in
    let home = given c.args.cargo_home in
    let old = g.S.Store.view c.args.files.now in
    let new = g.S.Store.view c.read_files.new.files in
    let own = c.in_ok-sources.field-0 in
    let e = c.in_err-policy.field-0.0 in
    failure_has c.from_residual-in_err-policy.result e
    (λ error. (IsReadCause current home (to_request args) old new error
    ⊎ (old.tells ≡ true → HasNoLock args.to_lockfile old.file_at current (given args.lock_file) error))
    ⊎ (old.tells ≡ true → HasBadPolicy args current home old.file_at error
    ⊎ HasNoUpgradeIndex args current home old.file_at error))
    c.from_residual-in_err-policy.ensures.1
    (policy_refused args current home old new own e.error c.in_ok-sources.ensures.read
    c.in_ok-sources.ensures.locked c.in_err-policy.ensures.error)

pub returns-in_err-policy-clause-counted : goal.returns-in_err-policy-clause-counted
returns-in_err-policy-clause-counted g c =
    let old = g.S.Store.view c.args.files.now in
    let new = g.S.Store.view c.read_files.new.files in
    failure_has c.from_residual-in_err-policy.result c.in_err-policy.field-0.0
    (λ error. CountsFault old new error) c.from_residual-in_err-policy.ensures.1
    (λ device. absurd (c.in_err-policy.ensures.counted device))

pub returns-in_err-policy-clause-only : goal.returns-in_err-policy-clause-only
returns-in_err-policy-clause-only g c =
    let args = c.args.args.now in
    let current = c.args.current.now in
    let old = g.S.Store.view c.args.files.now in
    let new = g.S.Store.view c.read_files.new.files in
    let e = c.in_err-policy.field-0.0 in
    failure_has c.from_residual-in_err-policy.result e
    (λ error. IsFailure old new error ⊎ IsReadingError args current error)
    c.from_residual-in_err-policy.ensures.1
    (policy_error args current old new c.in_ok-sources.field-0.sources.target e.error
    c.in_err-policy.ensures.error)

pub returns-in_err-index-clause-error : goal.returns-in_err-index-clause-error
returns-in_err-index-clause-error g c =
    let args = c.args.args.now in
    let current = c.args.current.now in
    let home = given c.args.cargo_home in
    let old = g.S.Store.view c.args.files.now in
    let mid = g.S.Store.view c.read_files.new.files in
    let new = g.S.Store.view c.read_index.new.files in
    let own = c.in_ok-sources.field-0 in
    let e = c.in_err-index.field-0.0 in
    failure_has c.from_residual-in_err-index.result e
    (λ error. (IsReadCause current home (to_request args) old new error
    ⊎ (old.tells ≡ true → HasNoLock args.to_lockfile old.file_at current (given args.lock_file) error))
    ⊎ (old.tells ≡ true → HasBadPolicy args current home old.file_at error
    ⊎ HasNoUpgradeIndex args current home old.file_at error))
    c.from_residual-in_err-index.ensures.1
    (index_refused args current home old mid new own c.follow_policy.new.sources
    c.in_ok-policy.policy c.in_ok-policy.chosen e.error c.in_ok-sources.ensures.store
    c.in_ok-sources.ensures.read c.in_ok-sources.ensures.locked c.in_ok-policy.ensures.follows
    c.in_err-index.ensures.error)

pub returns-in_err-index-clause-counted : goal.returns-in_err-index-clause-counted
returns-in_err-index-clause-counted g c =
    let old = g.S.Store.view c.args.files.now in
    let mid = g.S.Store.view c.read_files.new.files in
    let new = g.S.Store.view c.read_index.new.files in
    let e = c.in_err-index.field-0.0 in
    failure_has c.from_residual-in_err-index.result e (λ error. CountsFault old new error)
    c.from_residual-in_err-index.ensures.1
    (fault_before old mid new e.error c.in_ok-sources.ensures.store.later c.in_err-index.ensures.counted)

pub returns-in_err-index-clause-only : goal.returns-in_err-index-clause-only
returns-in_err-index-clause-only g c =
    let args = c.args.args.now in
    let current = c.args.current.now in
    let old = g.S.Store.view c.args.files.now in
    let mid = g.S.Store.view c.read_files.new.files in
    let new = g.S.Store.view c.read_index.new.files in
    let e = c.in_err-index.field-0.0 in
    failure_has c.from_residual-in_err-index.result e
    (λ error. IsFailure old new error ⊎ IsReadingError args current error)
    c.from_residual-in_err-index.ensures.1
    (index_error args current old mid new e.error c.in_ok-sources.ensures.store c.in_err-index.ensures.only)

pub returns-clause-ready : goal.returns-clause-ready
returns-clause-ready g c = λ t.
    let args = c.args.args.now in
    let current = c.args.current.now in
    let old = g.S.Store.view c.args.files.now in
    let mid = g.S.Store.view c.read_files.new.files in
    record {
      own = c.in_ok-sources.field-0;
      read = c.in_ok-sources.ensures.read t;
      locked = c.in_ok-sources.ensures.locked t;
      follows = c.in_ok-policy.ensures.follows;
      lock = refl;
      index = before (λ files. IsIndexOf c.in_ok-policy.chosen.published_before files current
          (given args.index_file) (given args.index_dir) c.in_ok-index.index) old mid
          c.in_ok-sources.ensures.store c.in_ok-index.ensures.read t;
    }

pub returns-clause-by_policy : goal.returns-clause-by_policy
returns-clause-by_policy g c = record {
  own = c.in_ok-sources.field-0.sources;
  follows = c.in_ok-policy.ensures.follows;
}

pub returns-clause-planned : goal.returns-clause-planned
returns-clause-planned g c = c.in_ok-policy.ensures.planned
