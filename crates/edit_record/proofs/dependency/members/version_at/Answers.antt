use Rattle.std.proofs.Common.{refl}
use Rattle.std.proofs.lemmas.Result.{err_from_is_err_and}
use Rattle.edit_record.proofs.EntryLemmas.{failure_stays}
use Rattle.edit_record.proofs.dependency.members.version_at.Goals as goal

pub returns-in_err-text-clause-error : goal.returns-in_err-text-clause-error
returns-in_err-text-clause-error c =
    let stop = c.from_residual in
    let p = err_from_is_err_and stop.result stop.ensures.1 in
    rw (p.1, p.2) (failure_stays _ _ _ c.in_err-text.ensures.error)

pub returns-clause-ok : goal.returns-clause-ok
returns-clause-ok c = rw (c.in_ok-text.ensures.ok, ← c.in_ok-owned_version.ensures) refl
