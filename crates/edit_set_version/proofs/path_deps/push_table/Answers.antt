use Rattle.std.proofs.lemmas.Result.{err_from_is_err_and}
use Rattle.edit_set_version.proofs.path_deps.push_table.Goals as goal

pub returns-in_err-push_named-clause-error : goal.returns-in_err-push_named-clause-error
returns-in_err-push_named-clause-error c =
    let r = err_from_is_err_and c.from_residual.result
    c.from_residual.ensures.1 in
    rw (r.1, r.2) c.in_err-push_named.ensures.error
