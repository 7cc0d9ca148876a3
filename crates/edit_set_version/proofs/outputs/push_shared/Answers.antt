use Rattle.std.proofs.Common.{refl}
use Rattle.std.proofs.lemmas.Result.{err_from_is_err_and}
use Rattle.edit_set_version.proofs.outputs.push_shared.Goals as goal

pub returns-in_err-edit-clause-error : goal.returns-in_err-edit-clause-error
returns-in_err-edit-clause-error c =
    let r = err_from_is_err_and c.from_residual.result c.from_residual.ensures.1 in
    rw (r.1, r.2) refl

pub returns-in_err-push-clause-error : goal.returns-in_err-push-clause-error
returns-in_err-push-clause-error c =
    let r = err_from_is_err_and c.from_residual-in_err-push.result c.from_residual-in_err-push.ensures.1 in
    rw (r.1, r.2) refl
