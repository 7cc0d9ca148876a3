use Rattle.std.proofs.Common.{◌≡◌, ◌∙◌, ◌∷◌, [], List, ap, inl, inr, string_bytes, subst, sym, ℕ}
use Rattle.std.specs.Prelude.{All, codes}
use Rattle.std.proofs.lemmas.List.Elements.{All-cons, All-nil}
use Rattle.std.proofs.lemmas.Result.{err_from_is_err_and}
use Rattle.edit_set_version.specs.Crates.{members_of}
use Rattle.edit_set_version.specs.PlanCauses.{AllRiseIn, AreUnraised, IsUnraised}
use Rattle.edit_set_version.specs.PlanLines.{Named}
use Rattle.edit_set_version.specs.LineViews.{line_lists_view, other_manifests, with_manifests}
use Rattle.edit_set_version.specs.declared.crates.Crate.{Crate}
use Rattle.edit_set_version.specs.declared.project.ProjectRead.{ProjectRead}
use Rattle.edit_tree.specs.DocumentViews.{tree_of}
use Rattle.edit_base.proofs.FirstCauseLemmas.{first_behind, first_here}
use Rattle.edit_set_version.proofs.ManifestLines.{manifests_in_parts}
use Rattle.edit_set_version.proofs.walk.push_project.Goals as goal

-- the root's manifest
abbrev root_of : ProjectRead → Named
root_of project = record {
  name = codes "workspace";
  path = string_bytes project.root.input.now.path;
  tree = tree_of project.root.manifest.now.document;
}

-- the manifests of the other members
abbrev others_of : ProjectRead → List Named
others_of project =
    other_manifests (string_bytes project.root.input.now.path) (members_of project.members.items)

pub returns-in_err-push_manifest-clause-error : goal.returns-in_err-push_manifest-clause-error
returns-in_err-push_manifest-clause-error c =
    let p = err_from_is_err_and c.from_residual.result c.from_residual.ensures.1 in
    let project = c.args.project.now in
    let f = c.in_err-push_manifest.field-0.0 in
    rw (p.1, p.2) (λ bs tells. elim (c.in_err-push_manifest.ensures.error bs tells) [
      | inl none ↦ inl none
      | inr has ↦ inr (first_here (AllRiseIn bs) (λ (m : Named). IsUnraised bs m.path m.tree f)
          (root_of project) (others_of project) has)
    ])

-- the manifests of the members, by the path and the crates that are given for them
others_given : (project : ProjectRead) (path : List ℕ) (cs : List Crate)
    → path ≡ string_bytes project.root.input.now.path → cs ≡ project.members.items
    → other_manifests path (members_of cs) ≡ others_of project
others_given project path cs at same =
    ap (λ r. other_manifests r (members_of cs)) at
    ∙ ap (λ xs. other_manifests (string_bytes project.root.input.now.path) (members_of xs)) same

pub returns-in_err-push_members-clause-error : goal.returns-in_err-push_members-clause-error
returns-in_err-push_members-clause-error c =
    let p = err_from_is_err_and c.from_residual-in_err-push_members.result
    c.from_residual-in_err-push_members.ensures.1 in
    let project = c.args.project.now in
    let f = c.in_err-push_members.field-0.0 in
    let given = others_given project c.as_str.result.now c.deref.result.now c.as_str.ensures.value
    c.deref.ensures.value in
    rw (p.1, p.2) (λ bs tells. elim (c.in_err-push_members.ensures.error bs tells) [
      | inl none ↦ inl none
      | inr has ↦ inr (first_behind (AllRiseIn bs) (λ (m : Named). IsUnraised bs m.path m.tree f)
          (root_of project ∷ []) (others_of project)
          (All-cons (AllRiseIn bs) (root_of project) [] (c.in_ok-push_manifest.ensures.rise bs tells)
          (All-nil (AllRiseIn bs)))
          (subst (λ ms. AreUnraised bs ms f) given has))
    ])

pub returns-clause-ok : goal.returns-clause-ok
returns-clause-ok c = λ bs tells.
    let project = c.args.project.now in
    let was = line_lists_view c.args.lists.now.items in
    let mid = line_lists_view c.push_manifest.new.lists.items in
    let given = others_given project c.as_str.result.now c.deref.result.now c.as_str.ensures.value
    c.deref.ensures.value in
    c.in_ok-push_members.ensures.ok bs tells
    ∙ ap (λ ms. with_manifests bs ms 0 mid) given
    ∙ ap (with_manifests bs (others_of project) 0) (c.in_ok-push_manifest.ensures.ok bs tells)
    ∙ sym (manifests_in_parts bs (root_of project ∷ []) (others_of project) 0 was)

pub returns-clause-rise : goal.returns-clause-rise
returns-clause-rise c = λ bs tells.
    let project = c.args.project.now in
    let given = others_given project c.as_str.result.now c.deref.result.now c.as_str.ensures.value
    c.deref.ensures.value in
    All-cons (AllRiseIn bs) (root_of project) (others_of project) (c.in_ok-push_manifest.ensures.rise bs tells)
    (subst (All (AllRiseIn bs)) given (c.in_ok-push_members.ensures.rise bs tells))
