use Rattle.std.proofs.Common.{◌≡◌, ◌∙◌, None, List, [], ap, inl, inr, map, option_map, subst, sym}
use Rattle.std.specs.List.{filter_map}
use Rattle.std.specs.Prelude.{All, if◌then◌else◌, option_and_then}
use Rattle.std.proofs.lemmas.Result.{err_from_is_err_and}
use Rattle.semver.specs.Identifiers.{parts_of}
use Rattle.semver.specs.Parse.{Parts}
use Rattle.edit_base.specs.Errors.{IsMemory}
use Rattle.edit_manifest.specs.Versions.{workspace_version}
use Rattle.edit_tree.specs.DocumentViews.{tree_of}
use Rattle.edit_version.specs.Laws.{IsReadable}
use Rattle.edit_set_version.specs.Bumps.{bump, next_of, target_of}
use Rattle.edit_set_version.specs.Chosen.{Member, bumps_workspace, chosen_members, excluded_inheriting, inheriting_members}
use Rattle.edit_set_version.specs.Crates.{members_of, project_view}
use Rattle.edit_set_version.specs.BumpCauses.{IsBumpable, IsUnbumped}
use Rattle.edit_set_version.specs.PlanCauses.{AreUnbumped, IsExcludeError, excluded, member_current, version}
use Rattle.edit_set_version.specs.Selections.{selection_view}
use Rattle.edit_set_version.specs.SetVersioned.{bump_of, workspace_current}
use Rattle.edit_set_version.specs.Written.{shared_version_view}
use Rattle.edit_set_version.specs.declared.crates.Crate.{Crate}
use Rattle.edit_set_version.proofs.PlanLemmas.{seen_copied}
use Rattle.edit_set_version.proofs.VersionLemmas.{all_currents, all_shared, unbumped_chosen, unbumped_shared}
use Rattle.edit_set_version.proofs.planned.versions_of.Goals as goal

pub returns-in-Err-next_workspace_version-clause-error : goal.returns-in-Err-next_workspace_version-clause-error
returns-in-Err-next_workspace_version-clause-error c =
    let a = selection_view c.args.selection.now in
    let p = project_view c.args.project.now in
    let tree = tree_of c.args.project.now.root.manifest.now.document in
    let is : option_map parts_of c.in_ok-current.current ≡ workspace_current a p
    = c.in_ok-current.ensures.ok
    ∙ ap (λ b. if b then workspace_version tree else None) (c.in-Ok.ensures.workspace
    ∙ ap (λ cs. bumps_workspace a (members_of cs)) c.deref.ensures.value) in
    let seen : shared_version_view c.as_ref.result ≡ workspace_current a p
    = seen_copied c.as_ref.result ∙ ap (option_map parts_of) c.as_ref.ensures.value ∙ is in
    let why = c.in-Err-next_workspace_version.ensures.error in
    let f = c.at_root-in-Err-next_workspace_version.result in
    let none : excluded_inheriting a p.members ≡ []
    = ap (λ cs. excluded_inheriting a (members_of cs)) (sym c.deref.ensures.value) ∙ c.in-Ok.ensures.excluded in
    inr (version none (unbumped_shared (target_of c.args.target.now) a p why.0 f (sym seen ∙ why.1) (
      subst (IsUnbumped (bump (target_of c.args.target.now) a.metadata why.0) why.0)
          (sym c.at_root-in-Err-next_workspace_version.ensures.error) why.2,
      c.at_root-in-Err-next_workspace_version.ensures.origin,
    )))

pub returns-in_err-bumps-clause-error : goal.returns-in_err-bumps-clause-error
returns-in_err-bumps-clause-error c =
    let t = target_of c.args.target.now in
    let a = selection_view c.args.selection.now in
    let p = project_view c.args.project.now in
    let f = c.in_err-bumps.field-0.0 in
    let tree = tree_of c.args.project.now.root.manifest.now.document in
    let these : members_of c.deref-2.result.now ≡ chosen_members a p.members
    = ap members_of c.deref-2.ensures.value ∙ c.in-Ok.ensures.chosen
    ∙ ap (λ cs. chosen_members a (members_of cs)) c.deref.ensures.value in
    let is : option_map parts_of c.in_ok-current.current ≡ workspace_current a p
    = c.in_ok-current.ensures.ok
    ∙ ap (λ b. if b then workspace_version tree else None) (c.in-Ok.ensures.workspace
    ∙ ap (λ cs. bumps_workspace a (members_of cs)) c.deref.ensures.value) in
    let seen : shared_version_view c.as_ref.result ≡ workspace_current a p
    = seen_copied c.as_ref.result ∙ ap (option_map parts_of) c.as_ref.ensures.value ∙ is in
    let shared = all_shared (λ (v : Parts). IsBumpable (bump t a.metadata v)) c.as_ref.result
    (workspace_current a p) seen c.in-Ok-next_workspace_version.ensures.bumpable in
    let r = err_from_is_err_and c.from_residual-in_err-bumps.result
    c.from_residual-in_err-bumps.ensures.1 in
    let none_excluded : excluded_inheriting a p.members ≡ []
    = ap (λ cs. excluded_inheriting a (members_of cs)) (sym c.deref.ensures.value) ∙ c.in-Ok.ensures.excluded in
    rw (r.1, r.2) (elim c.in_err-bumps.ensures.error [
      | inl none ↦ inl none
      | inr why ↦ inr (version none_excluded (unbumped_chosen t a p f shared
          (subst (λ (ms : List Member). AreUnbumped t a (map member_current ms) f) these why)))
    ])

pub returns-clause-bumpable : goal.returns-clause-bumpable
returns-clause-bumpable c =
    let t = target_of c.args.target.now in
    let a = selection_view c.args.selection.now in
    let p = project_view c.args.project.now in
    let tree = tree_of c.args.project.now.root.manifest.now.document in
    let these : members_of c.deref-2.result.now ≡ chosen_members a p.members
    = ap members_of c.deref-2.ensures.value ∙ c.in-Ok.ensures.chosen
    ∙ ap (λ cs. chosen_members a (members_of cs)) c.deref.ensures.value in
    let is : option_map parts_of c.in_ok-current.current ≡ workspace_current a p
    = c.in_ok-current.ensures.ok
    ∙ ap (λ b. if b then workspace_version tree else None) (c.in-Ok.ensures.workspace
    ∙ ap (λ cs. bumps_workspace a (members_of cs)) c.deref.ensures.value) in
    let seen : shared_version_view c.as_ref.result ≡ workspace_current a p
    = seen_copied c.as_ref.result ∙ ap (option_map parts_of) c.as_ref.ensures.value ∙ is in
    all_currents (λ (v : Parts). IsBumpable (bump t a.metadata v)) a p
    (all_shared (λ (v : Parts). IsBumpable (bump t a.metadata v)) c.as_ref.result (workspace_current a p) seen
    c.in-Ok-next_workspace_version.ensures.bumpable)
    (subst (All (λ (m : Member). IsBumpable (bump t a.metadata m.version))) these
    c.in_ok-bumps.ensures.bumpable)

pub returns-clause-versions : goal.returns-clause-versions
returns-clause-versions c = λ target all.
    let a = selection_view c.args.selection.now in
    let p = project_view c.args.project.now in
    let these : members_of c.deref-2.result.now ≡ chosen_members a p.members
    = ap members_of c.deref-2.ensures.value ∙ c.in-Ok.ensures.chosen
    ∙ ap (λ cs. chosen_members a (members_of cs)) c.deref.ensures.value in
    c.in_ok-bumps.ensures.versions target
    (subst (All (λ (m : Member). IsReadable m.version)) (sym these) all)

pub returns-in-Err-clause-error : goal.returns-in-Err-clause-error
returns-in-Err-clause-error c =
    let a = selection_view c.args.selection.now in
    elim c.in-Err.ensures.error [
      | inl none ↦ inl (subst IsMemory (sym c.at_root.ensures.error) none)
      | inr why ↦ inr (excluded (subst (IsExcludeError (excluded_inheriting a (members_of c.args.project.now.members.items))
          (inheriting_members a (members_of c.args.project.now.members.items))) (sym c.at_root.ensures.error)
          (subst (λ (cs : List Crate). IsExcludeError (excluded_inheriting a (members_of cs))
          (inheriting_members a (members_of cs)) c.in-Err.error) c.deref.ensures.value why))
          c.at_root.ensures.origin)
    ]

pub returns-in_err-current-clause-error : goal.returns-in_err-current-clause-error
returns-in_err-current-clause-error c =
    let r = err_from_is_err_and c.from_residual.result c.from_residual.ensures.1 in
    rw r.1 (inl (subst IsMemory (sym r.2.0) c.in_err-current.ensures.error))

pub returns-clause-bumps : goal.returns-clause-bumps
returns-clause-bumps c =
    let t = target_of c.args.target.now in
    let a = selection_view c.args.selection.now in
    let p = project_view c.args.project.now in
    let these : members_of c.deref-2.result.now ≡ chosen_members a p.members
    = ap members_of c.deref-2.ensures.value ∙ c.in-Ok.ensures.chosen
    ∙ ap (λ cs. chosen_members a (members_of cs)) c.deref.ensures.value in
    c.in_ok-bumps.ensures.ok ∙ ap (filter_map (bump_of t a)) these

pub returns-clause-current : goal.returns-clause-current
returns-clause-current c =
    let a = selection_view c.args.selection.now in
    let tree = tree_of c.args.project.now.root.manifest.now.document in
    c.in_ok-current.ensures.ok
    ∙ ap (λ b. if b then workspace_version tree else None) (c.in-Ok.ensures.workspace
    ∙ ap (λ cs. bumps_workspace a (members_of cs)) c.deref.ensures.value)

pub returns-clause-next : goal.returns-clause-next
returns-clause-next c =
    let t = target_of c.args.target.now in
    let a = selection_view c.args.selection.now in
    let p = project_view c.args.project.now in
    let tree = tree_of c.args.project.now.root.manifest.now.document in
    let is : option_map parts_of c.in_ok-current.current ≡ workspace_current a p
    = c.in_ok-current.ensures.ok
    ∙ ap (λ b. if b then workspace_version tree else None) (c.in-Ok.ensures.workspace
    ∙ ap (λ cs. bumps_workspace a (members_of cs)) c.deref.ensures.value) in
    let seen : shared_version_view c.as_ref.result ≡ workspace_current a p
    = seen_copied c.as_ref.result ∙ ap (option_map parts_of) c.as_ref.ensures.value ∙ is in
    c.in-Ok-next_workspace_version.ensures.ok ∙ ap (option_and_then (λ (v : Parts). next_of (bump t a.metadata v))) seen

pub returns-clause-excluded : goal.returns-clause-excluded
returns-clause-excluded c =
    let a = selection_view c.args.selection.now in
    ap (λ cs. excluded_inheriting a (members_of cs)) (sym c.deref.ensures.value) ∙ c.in-Ok.ensures.excluded
