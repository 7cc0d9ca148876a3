use Rattle.std.proofs.Common.{inl, refl}
use Rattle.std.proofs.lemmas.Result.{err_from_is_err_and}
use Rattle.edit_set_version.proofs.choose.check_excluded.Goals as goal

pub returns-in_err-held-clause-error : goal.returns-in_err-held-clause-error
returns-in_err-held-clause-error c =
    let r = err_from_is_err_and c.from_residual.result c.from_residual.ensures.1 in
    rw (r.1, r.2) (inl refl)

pub returns-in_err-excluded-clause-error : goal.returns-in_err-excluded-clause-error
returns-in_err-excluded-clause-error c =
    let r = err_from_is_err_and c.from_residual-in_err-excluded.result
    c.from_residual-in_err-excluded.ensures.1 in
    rw (r.1, r.2) (inl refl)

pub returns-in_err-inheriting-clause-error : goal.returns-in_err-inheriting-clause-error
returns-in_err-inheriting-clause-error c =
    let r = err_from_is_err_and c.from_residual-in_err-inheriting.result
    c.from_residual-in_err-inheriting.ensures.1 in
    rw (r.1, r.2) (inl refl)
