use Rattle.std.proofs.Common.{inl, refl, subst, sym}
use Rattle.std.proofs.lemmas.Result.{err_from_is_err_and}
use Rattle.edit_base.specs.Errors.{IsMemory}
use Rattle.edit_metadata.specs.Inputs.{path_of}
use Rattle.edit_tree.specs.DocumentViews.{tree_of}
use Rattle.edit_set_version.proofs.DependentLemmas.{all_rise}
use Rattle.edit_set_version.proofs.walk.push_manifest.Goals as goal

pub returns-in_err-dependents-clause-error : goal.returns-in_err-dependents-clause-error
returns-in_err-dependents-clause-error c =
    let p = err_from_is_err_and c.from_residual.result c.from_residual.ensures.1 in
    rw (p.1, p.2) c.in_err-dependents.ensures.error

pub returns-in_err-push_updates-clause-error : goal.returns-in_err-push_updates-clause-error
returns-in_err-push_updates-clause-error c =
    let p = err_from_is_err_and c.from_residual-in_err-push_updates.result
    c.from_residual-in_err-push_updates.ensures.1 in
    rw p.1 (λ bs tells. inl (subst IsMemory (sym p.2.0) refl))

pub returns-clause-rise : goal.returns-clause-rise
returns-clause-rise c = λ bs tells.
    all_rise bs (path_of c.args.input.now) (tree_of c.args.manifest.now.document)
    c.in_ok-dependents.dependents.items (c.in_ok-dependents.ensures.ok bs tells) c.in_ok-dependents.ensures.risen
