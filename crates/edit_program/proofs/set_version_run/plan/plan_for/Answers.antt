use Rattle.std.proofs.Common.{◌∙◌, ap, refl, subst, sym}
use Rattle.std.proofs.lemmas.List.Elements.{All-map}
use Rattle.edit_base.specs.Errors.{number_of}
use Rattle.edit_metadata.specs.Inputs.{AreInputs}
use Rattle.edit_metadata.specs.Metadata.{PackageModel}
use Rattle.edit_metadata.specs.Workspaces.{package_view, workspace_view}
use Rattle.edit_set_version.specs.Bumps.{target_of}
use Rattle.edit_set_version.specs.PlanRefused.{IsCauseOf}
use Rattle.edit_set_version.specs.Selections.{selection_view}
use Rattle.edit_version.specs.Laws.{IsReadable}
use Rattle.edit_program.specs.Plans.{IsVersionPlan}
use Rattle.edit_program.specs.SetVersions.{no_rust}
use Rattle.edit_program.proofs.CountLemmas.{versions_count}
use Rattle.edit_program.proofs.set_version_run.plan.plan_for.Goals as goal

pub plan_versions-requires-clause-inputs : goal.plan_versions-requires-clause-inputs
plan_versions-requires-clause-inputs c = (
  no_rust,
  subst (λ is. AreInputs no_rust (workspace_view c.args.read.now.workspace) is)
      (sym c.as_slice.ensures.value) c.requires.inputs,
)

pub returns-in-Ok-clause-planned : goal.returns-in-Ok-clause-planned
returns-in-Ok-clause-planned c =
    let t = target_of c.args.args.now.target in
    let a = selection_view c.args.args.now.selection in
    let w = workspace_view c.args.read.now.workspace in
    let there : IsVersionPlan t a w c.as_slice.result.now c.in-Ok.plan = record {
      readable = All-map (λ (q : PackageModel). IsReadable q.version) package_view
          c.args.read.now.workspace.packages.items c.requires.readable;
      is = c.in-Ok.ensures.planned;
    } in
    subst (λ is. IsVersionPlan t a w is c.in-Ok.plan) c.as_slice.ensures.value there

pub returns-in-Err-clause-error : goal.returns-in-Err-clause-error
returns-in-Err-clause-error c =
    let t = target_of c.args.args.now.target in
    let a = selection_view c.args.args.now.selection in
    let w = workspace_view c.args.read.now.workspace in
    subst (λ is. IsCauseOf t a w is c.explain_set_version.result.error) c.as_slice.ensures.value
    (c.in-Err.failure, sym c.explain_set_version.ensures.same, c.in-Err.ensures.error)

pub returns-in-Err-clause-counted : goal.returns-in-Err-clause-counted
returns-in-Err-clause-counted c device =
    let t = target_of c.args.args.now.target in
    let a = selection_view c.args.args.now.selection in
    let w = workspace_view c.args.read.now.workspace in
    versions_count t a w c.as_slice.result.now c.in-Err.failure.error
    (c.in-Err.failure, refl, c.in-Err.ensures.error) (sym (ap number_of c.explain_set_version.ensures.same) ∙ device)
