use Rattle.std.proofs.Common.{◌≡◌, ◌⊎◌, ◌∙◌, ◌++◌, List, ap, inl, inr, map, option_map, subst, sym}
use Rattle.std.specs.List.{AllZip, flat_map}
use Rattle.std.specs.Prelude.{All}
use Rattle.std.proofs.lemmas.Result.{err_from_is_err_and}
use Rattle.semver.specs.Identifiers.{parts_of}
use Rattle.edit_base.specs.Errors.{IsMemory}
use Rattle.edit_metadata.specs.Metadata.{members}
use Rattle.edit_metadata.specs.Workspaces.{workspace_view}
use Rattle.edit_version.specs.Laws.{IsReadable}
use Rattle.edit_set_version.specs.Apart.{AreApart}
use Rattle.edit_set_version.specs.Bumps.{target_of}
use Rattle.edit_set_version.specs.Chosen.{Member, missing}
use Rattle.edit_set_version.specs.Crates.{IsReadOf, bumps_view, project_view}
use Rattle.edit_set_version.specs.Admitted.{AreVersions}
use Rattle.edit_set_version.specs.Plan.{IsPlan}
use Rattle.edit_set_version.specs.PlanCauses.{IsManifestError, IsMissing}
use Rattle.edit_set_version.specs.PlanLines.{Reported, lines_of, shared_lines}
use Rattle.edit_set_version.specs.PlanRefused.{IsFailureOf, IsInputClearBy, unknown}
use Rattle.edit_set_version.specs.PlanRefused.IsFailureOf.{manifest as of_manifest, memory as of_memory, no_manifest as of_input, no_package as of_package, project as of_project}
use Rattle.edit_set_version.specs.Planned.{HasOutputsBy, OutputsInOrder, has_lines, plan_changes_view, plan_lines_view}
use Rattle.edit_set_version.specs.Projects.{HasProject}
use Rattle.edit_set_version.specs.Selections.{selection_view}
use Rattle.edit_set_version.specs.SetVersioned.{Bump, bumps, workspace_current, workspace_next}
use Rattle.edit_set_version.specs.Written.{HasSharedVersion}
use Rattle.edit_set_version.specs.declared.failure.VersionFailure.{VersionFailure}
use Rattle.edit_set_version.specs.declared.plan.SetVersionPlan.{SetVersionPlan}
use Rattle.edit_set_version.proofs.ApartBumps.{bumps_apart}
use Rattle.edit_set_version.proofs.InputManifests.{inputs_among}
use Rattle.edit_set_version.proofs.InputPaths.{inputs_apart}
use Rattle.edit_set_version.proofs.PlanLemmas.{all_admitted, all_chosen, clear_given, lines_for, member_names_are, outputs_given, tells_shared, where_all, where_err}
use Rattle.edit_set_version.proofs.planned.plan_versions.Goals as goal

pub returns-in_err-manifests-clause-error : goal.returns-in_err-manifests-clause-error
returns-in_err-manifests-clause-error c =
    let r = err_from_is_err_and c.from_residual-in_err-manifests.result
    c.from_residual-in_err-manifests.ensures.1 in
    rw (r.1, r.2) (elim c.in_err-manifests.ensures.error [
      | inl none ↦ of_memory none
      | inr why ↦ of_input c.in_ok-check_names.ensures.found why
    ])

pub returns-in_err-versions-clause-error : goal.returns-in_err-versions-clause-error
returns-in_err-versions-clause-error c =
    let r = err_from_is_err_and c.from_residual-in_err-versions.result
    c.from_residual-in_err-versions.ensures.1 in
    let p = project_view c.in_ok-project.project in
    rw (r.1, r.2) (elim c.in_err-versions.ensures.error [
      | inl none ↦ of_memory none
      | inr why ↦ of_project c.in_ok-check_names.ensures.found p c.in_ok-project.ensures.ok why
    ])

pub plan_with-requires-clause-apart : goal.plan_with-requires-clause-apart
plan_with-requires-clause-apart c =
    subst AreApart (sym c.in_ok-versions.ensures.bumps)
    (bumps_apart (target_of c.args.target.now) (selection_view c.args.selection.now)
    (workspace_view c.args.workspace.now) c.args.inputs.now (project_view c.in_ok-project.project)
    c.requires.folders c.in_ok-project.ensures.ok)

pub plan_with-requires-clause-distinct : goal.plan_with-requires-clause-distinct
plan_with-requires-clause-distinct c =
    inputs_apart (workspace_view c.args.workspace.now) c.args.inputs.now c.requires.folders c.requires.inputs

pub plan_with-requires-clause-shared : goal.plan_with-requires-clause-shared
plan_with-requires-clause-shared c =
    let p = project_view c.in_ok-project.project in
    subst (HasSharedVersion c.args.inputs.now p.path) (sym c.in_ok-versions.ensures.next)
    (tells_shared (target_of c.args.target.now) (selection_view c.args.selection.now)
    (workspace_view c.args.workspace.now) c.args.inputs.now p c.in_ok-project.ensures.ok)

pub returns-clause-planned : goal.returns-clause-planned
returns-clause-planned c =
    let t = target_of c.args.target.now in
    let a = selection_view c.args.selection.now in
    let w = workspace_view c.args.workspace.now in
    let is = c.args.inputs.now in
    let p = project_view c.in_ok-project.project in
    let project = c.in_ok-project.ensures.ok in
    let versions = c.in_ok-versions.versions in
    let made = c.in_ok-versions.ensures in
    let m = option_map parts_of versions.current in
    let n = option_map parts_of versions.next in
    let bs = bumps_view versions.bumps.items in
    where_all c.plan_with.result
    (λ (plan : SetVersionPlan). All (HasOutputsBy p.path n bs plan.outputs.items) is)
    (λ (plan : SetVersionPlan). OutputsInOrder is plan.outputs.items)
    (λ (plan : SetVersionPlan). plan_lines_view plan
    ≡ map (λ (l : Reported). l.0) (shared_lines p.path m n ++ flat_map (lines_of p) bs))
    (λ (plan : SetVersionPlan). plan_changes_view plan
    ≡ map (λ (l : Reported). l.1) (shared_lines p.path m n ++ flat_map (lines_of p) bs))
    (λ (plan : SetVersionPlan). plan.changed ≡ has_lines plan)
    (All (IsInputClearBy bs) is)
    (λ (plan : SetVersionPlan). HasProject w is (IsPlan t a is plan))
    (λ plan set in_order lines_are changes_are changed clear.
    let outputs = outputs_given t a is p n bs plan.outputs.items made.next made.bumps set in
    let each = clear_given t a is p bs made.bumps clear in
    let same = lines_for p m (workspace_current a p) n (workspace_next t a p) bs (bumps t a p)
    made.current made.next made.bumps in
    record {
      project = p;
      is = project;
      holds = record {
        outputs = outputs;
        in_order = in_order;
        lines = lines_are ∙ ap (map (λ (l : Reported). l.0)) same;
        changes = changes_are ∙ ap (map (λ (l : Reported). l.1)) same;
        changed = changed;
        clear = record {
          packages = ap (missing a) (member_names_are is (members w.packages) p.members project.members)
              ∙ c.in_ok-check_names.ensures.found;
          excluded = made.excluded;
          versions = made.bumpable;
          each = each;
        };
        admits = λ target readable. all_admitted t a is p plan.outputs.items
            (subst AreVersions made.bumps (made.versions target
            (all_chosen (λ (q : Member). IsReadable q.version) a p.members readable)))
            outputs each;
      };
    })
    c.plan_with.ensures.outputs c.plan_with.ensures.in_order c.plan_with.ensures.lines
    c.plan_with.ensures.changes c.plan_with.ensures.changed c.plan_with.ensures.clear

pub returns-clause-error : goal.returns-clause-error
returns-clause-error c =
    let t = target_of c.args.target.now in
    let a = selection_view c.args.selection.now in
    let w = workspace_view c.args.workspace.now in
    let is = c.args.inputs.now in
    let p = project_view c.in_ok-project.project in
    let bs = bumps_view c.in_ok-versions.versions.bumps.items in
    where_err c.plan_with.result (λ (f : VersionFailure). IsMemory f.error ⊎ IsManifestError bs is p f)
    (IsFailureOf t a w is)
    (λ f why. elim why [
      | inl none ↦ of_memory none
      | inr fault ↦ of_manifest c.in_ok-check_names.ensures.found p c.in_ok-project.ensures.ok
          (record {
            excluded = c.in_ok-versions.ensures.excluded;
            versions = c.in_ok-versions.ensures.bumpable;
          })
          (subst (λ (cs : List Bump). IsManifestError cs is p f) c.in_ok-versions.ensures.bumps fault)
    ])
    c.plan_with.ensures.error

pub plan_with-requires-clause-among : goal.plan_with-requires-clause-among
plan_with-requires-clause-among c =
    let w = workspace_view c.args.workspace.now in
    let is = c.args.inputs.now in
    inputs_among w is (project_view c.in_ok-project.project) c.requires.inputs
    (inputs_apart w is c.requires.folders c.requires.inputs) c.in_ok-project.ensures.ok

pub returns-in_err-check_names-clause-error : goal.returns-in_err-check_names-clause-error
returns-in_err-check_names-clause-error c =
    let r = err_from_is_err_and c.from_residual.result c.from_residual.ensures.1 in
    let names = unknown (selection_view c.args.selection.now) (workspace_view c.args.workspace.now) in
    rw r.1 (elim c.in_err-check_names.ensures.error [
      | inl none ↦ of_memory (subst IsMemory (sym r.2.0) none)
      | inr why ↦ of_package (subst (IsMissing names) (sym r.2.0) why)
    ])

pub returns-in_err-project-clause-error : goal.returns-in_err-project-clause-error
returns-in_err-project-clause-error c =
    let r = err_from_is_err_and c.from_residual-in_err-project.result
    c.from_residual-in_err-project.ensures.1 in
    rw r.1 (of_memory (subst IsMemory (sym r.2.0) c.in_err-project.ensures.error))

pub project_of-requires-clause-inputs : goal.project_of-requires-clause-inputs
project_of-requires-clause-inputs c = c.requires.inputs

pub project_of-requires-clause-manifests : goal.project_of-requires-clause-manifests
project_of-requires-clause-manifests c =
    subst (AllZip IsReadOf c.args.inputs.now) (sym c.deref.ensures.value) c.in_ok-manifests.ensures.ok

pub plan_with-requires-clause-read : goal.plan_with-requires-clause-read
plan_with-requires-clause-read c =
    subst (AllZip IsReadOf c.args.inputs.now) (sym c.deref-2.ensures.value) c.in_ok-manifests.ensures.ok
