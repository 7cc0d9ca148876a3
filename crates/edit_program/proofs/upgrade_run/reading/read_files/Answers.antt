use Rattle.std.proofs.Common.{◌≡◌, inl, subst, true}
use Rattle.std.specs.Prelude.{◌⊎◌}
use Rattle.edit_sources.specs.Configured.{given}
use Rattle.edit_steps.proofs.ErrorFields.{failure_has}
use Rattle.edit_steps.specs.Causes.{IsFailure, IsReadCause}
use Rattle.edit_steps.specs.Errors.{IsSourceError}
use Rattle.edit_program.specs.LockRead.{HasNoLock}
use Rattle.edit_program.specs.Planned.{to_request}
use Rattle.edit_steps.specs.Faults.{CountsFault}
use Rattle.edit_program.proofs.CountLemmas.{fault_before}
use Rattle.edit_program.proofs.LockLemmas.{cause_after, lock_refused}
use Rattle.edit_program.proofs.UpgradeErrorLemmas.{lock_error, source_error}
use Rattle.edit_program.specs.UpgradeErrors.{IsFileError}
use Rattle.edit_program.proofs.upgrade_run.reading.read_files.Goals as goal

pub returns-in_err-lock-clause-error : goal.returns-in_err-lock-clause-error
returns-in_err-lock-clause-error g c =
    let args = c.args.args.now in
    let current = c.args.current.now in
    let home = given c.args.cargo_home in
    let old = g.S.Store.view c.args.files.now in
    let new = g.S.Store.view c.read_lock.new.files in
    let e = c.in_err-lock.field-0.0 in
    failure_has c.from_residual.result e
    (λ error. IsReadCause current home (to_request args) old new error
    ⊎ (old.tells ≡ true → HasNoLock args.to_lockfile old.file_at current (given args.lock_file) error))
    c.from_residual.ensures.1
    (lock_refused args.to_lockfile old new current home (given args.lock_file) (to_request args)
    e.error c.in_err-lock.ensures.error)

pub returns-in_err-sources-clause-error : goal.returns-in_err-sources-clause-error
returns-in_err-sources-clause-error g c =
    let args = c.args.args.now in
    let current = c.args.current.now in
    let home = given c.args.cargo_home in
    let old = g.S.Store.view c.args.files.now in
    let mid = g.S.Store.view c.read_lock.new.files in
    let new = g.S.Store.view c.read_sources.new.files in
    let e = c.in_err-sources.field-0.0 in
    failure_has c.from_residual-in_err-sources.result e
    (λ error. IsReadCause current home (to_request args) old new error
    ⊎ (old.tells ≡ true → HasNoLock args.to_lockfile old.file_at current (given args.lock_file) error))
    c.from_residual-in_err-sources.ensures.1
    (inl (cause_after old mid new current home (to_request args) e.error c.in_ok-lock.ensures.store
    (subst (λ a. IsReadCause current home a mid new e.error) c.to_request.ensures
    c.in_err-sources.ensures.error)))

pub returns-in_err-sources-clause-counted : goal.returns-in_err-sources-clause-counted
returns-in_err-sources-clause-counted g c =
    let old = g.S.Store.view c.args.files.now in
    let mid = g.S.Store.view c.read_lock.new.files in
    let new = g.S.Store.view c.read_sources.new.files in
    let e = c.in_err-sources.field-0.0 in
    failure_has c.from_residual-in_err-sources.result e (λ error. CountsFault old new error)
    c.from_residual-in_err-sources.ensures.1
    (fault_before old mid new e.error c.in_ok-lock.ensures.store.later c.in_err-sources.ensures.counted)

pub returns-in_err-lock-clause-only : goal.returns-in_err-lock-clause-only
returns-in_err-lock-clause-only g c =
    let args = c.args.args.now in
    let current = c.args.current.now in
    let old = g.S.Store.view c.args.files.now in
    let new = g.S.Store.view c.read_lock.new.files in
    let e = c.in_err-lock.field-0.0 in
    failure_has c.from_residual.result e (λ error. IsFailure old new error ⊎ IsFileError args current error)
    c.from_residual.ensures.1 (lock_error args current old new e.error c.in_err-lock.ensures.only)

pub returns-in_err-sources-clause-only : goal.returns-in_err-sources-clause-only
returns-in_err-sources-clause-only g c =
    let args = c.args.args.now in
    let current = c.args.current.now in
    let old = g.S.Store.view c.args.files.now in
    let mid = g.S.Store.view c.read_lock.new.files in
    let new = g.S.Store.view c.read_sources.new.files in
    let e = c.in_err-sources.field-0.0 in
    failure_has c.from_residual-in_err-sources.result e
    (λ error. IsFailure old new error ⊎ IsFileError args current error)
    c.from_residual-in_err-sources.ensures.1
    (source_error args current old mid new e.error c.in_ok-lock.ensures.store
    (subst (λ a. IsFailure mid new e.error ⊎ IsSourceError current a e.error) c.to_request.ensures
    c.in_err-sources.ensures.only))
