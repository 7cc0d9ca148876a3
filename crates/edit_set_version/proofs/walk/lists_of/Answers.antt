use Rattle.std.proofs.Common.{◌∙◌, ap}
use Rattle.std.proofs.lemmas.Result.{err_from_is_err_and}
use Rattle.edit_set_version.specs.Crates.{bumps_view, project_view}
use Rattle.edit_set_version.specs.PlanLines.{manifests}
use Rattle.edit_set_version.specs.LineViews.{with_manifests}
use Rattle.edit_set_version.proofs.walk.lists_of.Goals as goal

pub returns-in_err-push_project-clause-error : goal.returns-in_err-push_project-clause-error
returns-in_err-push_project-clause-error c =
    let p = err_from_is_err_and c.from_residual-in_err-push_project.result
    c.from_residual-in_err-push_project.ensures.1 in
    rw (p.1, p.2) (c.in_err-push_project.ensures.error (bumps_view c.args.bumps.now) c.requires.numbers)

pub returns-clause-ok : goal.returns-clause-ok
returns-clause-ok c =
    let bs = bumps_view c.args.bumps.now in
    c.in_ok-push_project.ensures.ok bs c.requires.numbers
    ∙ ap (with_manifests bs (manifests (project_view c.args.project.now)) 0) c.in_ok-lists.ensures.ok

pub returns-clause-rise : goal.returns-clause-rise
returns-clause-rise c = c.in_ok-push_project.ensures.rise (bumps_view c.args.bumps.now) c.requires.numbers
