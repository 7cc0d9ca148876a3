use Rattle.std.proofs.Common.{refl}
use Rattle.std.proofs.lemmas.Result.{err_from_is_err_and}
use Rattle.edit_set_version.proofs.path_deps.push_named.Goals as goal

pub returns-in_err-entry-clause-error : goal.returns-in_err-entry-clause-error
returns-in_err-entry-clause-error c =
    let r = err_from_is_err_and c.from_residual.result c.from_residual.ensures.1 in
    rw (r.1, r.2) c.in_err-entry.ensures.error

pub returns-in_err-push-in-Some-clause-error : goal.returns-in_err-push-in-Some-clause-error
returns-in_err-push-in-Some-clause-error c =
    let r = err_from_is_err_and c.from_residual-in_err-push-in-Some.result c.from_residual-in_err-push-in-Some.ensures.1 in
    rw (r.1, r.2) refl
