use Rattle.std.proofs.Common.{◌≡◌, subst, sym, true}
use Rattle.std.specs.Prelude.{◌⊎◌}
use Rattle.edit_base.specs.declared.errors.DeviceCall.TheVariants as call
use Rattle.edit_sources.specs.Configured.{given}
use Rattle.edit_store.specs.Store.{IsCallError}
use Rattle.edit_program.specs.LockRead.{HasNoLock}
use Rattle.edit_program.specs.UpgradeErrors.{IsLockFileError}
use Rattle.edit_program.proofs.upgrade_run.reading.read_lock.Goals as goal

pub returns-in-Err-clause-error : goal.returns-in-Err-clause-error
returns-in-Err-clause-error g c =
    let old = g.S.Store.view c.args.files.now in
    let new = g.S.Store.view c.read_lock_at.new.files in
    let e = c.in-Err.failure.error in
    subst (λ named. IsCallError call.Read old new e
    ⊎ (old.tells ≡ true → HasNoLock c.args.required old.file_at c.args.current.now (given named) e)) (sym c.in-Some.is)
    c.in-Err.ensures.error

pub returns-in-Err-clause-only : goal.returns-in-Err-clause-only
returns-in-Err-clause-only g c =
    let old = g.S.Store.view c.args.files.now in
    let new = g.S.Store.view c.read_lock_at.new.files in
    let e = c.in-Err.failure.error in
    subst (λ named. IsCallError call.Read old new e ⊎ IsLockFileError c.args.required (given named) e)
    (sym c.in-Some.is) c.in-Err.ensures.only
