use Rattle.std.proofs.Common.{refl}
use Rattle.std.proofs.lemmas.Result.{err_from_is_err_and}
use Rattle.edit_record.proofs.EntryLemmas.{failure_stays}
use Rattle.edit_record.proofs.dependency.read.table_record.Goals as goal

pub returns-in_err-crate_name-clause-error : goal.returns-in_err-crate_name-clause-error
returns-in_err-crate_name-clause-error c =
    let stop = c.from_residual in
    let p = err_from_is_err_and stop.result stop.ensures.1 in
    rw (p.1, p.2) (failure_stays _ _ _ c.in_err-crate_name.ensures.error)

pub returns-in_err-source-clause-error : goal.returns-in_err-source-clause-error
returns-in_err-source-clause-error c =
    let stop = c.from_residual-in_err-source in
    let p = err_from_is_err_and stop.result stop.ensures.1 in
    rw (p.1, p.2, c.in_ok-crate_name.ensures.ok) (failure_stays _ _ _ c.in_err-source.ensures.error)

pub returns-in_err-registry-clause-error : goal.returns-in_err-registry-clause-error
returns-in_err-registry-clause-error c =
    let stop = c.from_residual-in_err-registry in
    let p = err_from_is_err_and stop.result stop.ensures.1 in
    rw (p.1, p.2, c.in_ok-crate_name.ensures.ok, c.in_ok-source.ensures.ok)
    (failure_stays _ _ _ c.in_err-registry.ensures.error)

pub returns-clause-ok : goal.returns-clause-ok
returns-clause-ok c =
    rw (
      c.in_ok-crate_name.ensures.ok,
      c.in_ok-source.ensures.ok,
      c.in_ok-registry.ensures.ok,
      ← c.in_ok-name.ensures,
      ← c.bool_at.ensures,
      ← c.bool_at-2.ensures,
    ) refl
