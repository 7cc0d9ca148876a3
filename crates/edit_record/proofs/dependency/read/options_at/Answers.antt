use Rattle.std.proofs.lemmas.Result.{err_from_is_err_and}
use Rattle.edit_record.proofs.EntryLemmas.{failure_stays}
use Rattle.edit_record.proofs.dependency.read.options_at.Goals as goal

pub returns-in_err-registry-clause-error : goal.returns-in_err-registry-clause-error
returns-in_err-registry-clause-error c =
    let stop = c.from_residual in
    let p = err_from_is_err_and stop.result stop.ensures.1 in
    rw (p.1, p.2) (failure_stays _ _ _ c.in_err-registry.ensures.error)

pub returns-in_err-check_spelling-clause-error : goal.returns-in_err-check_spelling-clause-error
returns-in_err-check_spelling-clause-error c =
    let stop = c.from_residual-in_err-check_spelling in
    let p = err_from_is_err_and stop.result stop.ensures.1 in
    rw (p.1, p.2, c.in_ok-registry.ensures.ok)
    (failure_stays _ _ _ c.in_err-check_spelling.ensures.error)

pub returns-in_err-features-clause-error : goal.returns-in_err-features-clause-error
returns-in_err-features-clause-error c =
    let stop = c.from_residual-in_err-features in
    let p = err_from_is_err_and stop.result stop.ensures.1 in
    rw (p.1, p.2, c.in_ok-registry.ensures.ok, c.in_ok-check_spelling.ensures.ok)
    (failure_stays _ _ _ c.in_err-features.ensures.error)
