use Rattle.std.proofs.lemmas.Result.{err_from_is_err_and}
use Rattle.edit_set_version.proofs.bump.fill_requested.Goals as goal

pub returns-in_err-version-clause-made : goal.returns-in_err-version-clause-made
returns-in_err-version-clause-made c =
    let r = err_from_is_err_and c.from_residual.result c.from_residual.ensures.1 in
    rw (r.1, r.2) tt
