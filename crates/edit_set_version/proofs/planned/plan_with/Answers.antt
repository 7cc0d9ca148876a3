use Rattle.std.proofs.Common.{◌∙◌, List, ℕ, ap, inl, inr, map, option_map, subst, sym}
use Rattle.std.specs.Prelude.{All}
use Rattle.std.proofs.lemmas.Result.{err_from_is_err_and}
use Rattle.semver.specs.Identifiers.{parts_of}
use Rattle.edit_base.specs.Errors.{IsMemory}
use Rattle.edit_set_version.specs.Apart.{AreApart}
use Rattle.edit_set_version.specs.Crates.{bumps_view, project_view}
use Rattle.edit_set_version.specs.BumpsByFolder.{HasFirstBumps}
use Rattle.edit_set_version.specs.PlanLines.{Reported, manifests}
use Rattle.edit_set_version.specs.PlanCauses.{AllRiseIn, AreUnraised, HasLiteral, LackLiterals}
use Rattle.edit_set_version.specs.PlanCauses.IsManifestError.{literal as of_literal, requirement as of_requirement}
use Rattle.edit_set_version.specs.PlanRefused.{IsInputClearBy}
use Rattle.edit_set_version.specs.Written.{HasSharedVersion, shared_version_view}
use Rattle.edit_set_version.specs.declared.crates.Bump.{Bump as Bumping}
use Rattle.edit_set_version.proofs.EditsStand.{all_clear}
use Rattle.edit_set_version.proofs.PlanLemmas.{lines_for, seen_copied, set_for}
use Rattle.edit_set_version.proofs.planned.plan_with.Goals as goal

pub check_literals-requires-clause-numbers : goal.check_literals-requires-clause-numbers
check_literals-requires-clause-numbers c =
    subst (λ (bs : List Bumping). HasFirstBumps (bumps_view bs) c.in_ok-numbers.numbers)
    (c.deref.ensures.value ∙ sym c.deref-2.ensures.value) c.in_ok-numbers.ensures.ok

pub check_literals-requires-clause-apart : goal.check_literals-requires-clause-apart
check_literals-requires-clause-apart c =
    subst (λ (bs : List Bumping). AreApart (bumps_view bs)) (sym c.deref-2.ensures.value) c.requires.apart

pub check_literals-requires-clause-read : goal.check_literals-requires-clause-read
check_literals-requires-clause-read c = c.requires.read

pub plan_lines-requires-clause-numbers : goal.plan_lines-requires-clause-numbers
plan_lines-requires-clause-numbers c =
    subst (λ (bs : List Bumping). HasFirstBumps (bumps_view bs) c.in_ok-numbers.numbers)
    (c.deref.ensures.value ∙ sym c.deref-3.ensures.value) c.in_ok-numbers.ensures.ok

pub outputs_of-requires-clause-numbers : goal.outputs_of-requires-clause-numbers
outputs_of-requires-clause-numbers c =
    subst (λ (bs : List Bumping). HasFirstBumps (bumps_view bs) c.in_ok-numbers.numbers)
    (c.deref.ensures.value ∙ sym c.deref-2.ensures.value) c.in_ok-numbers.ensures.ok

pub returns-in_err-numbers-clause-error : goal.returns-in_err-numbers-clause-error
returns-in_err-numbers-clause-error c =
    let r = err_from_is_err_and c.from_residual.result c.from_residual.ensures.1 in
    rw r.1 (inl (subst IsMemory (sym r.2.0) c.in_err-numbers.ensures.error))

pub plan_lines-requires-clause-apart : goal.plan_lines-requires-clause-apart
plan_lines-requires-clause-apart c =
    subst (λ (bs : List Bumping). AreApart (bumps_view bs)) (sym c.deref-3.ensures.value) c.requires.apart

pub returns-in_err-check_literals-clause-error : goal.returns-in_err-check_literals-clause-error
returns-in_err-check_literals-clause-error c =
    let r = err_from_is_err_and c.from_residual-in_err-check_literals.result
    c.from_residual-in_err-check_literals.ensures.1 in
    let f = c.in_err-check_literals.field-0.0 in
    rw (r.1, r.2) (elim c.in_err-check_literals.ensures.error [
      | inl none ↦ inl none
      | inr why ↦ inr (of_literal why.0
          (subst (λ (bs : List Bumping). LackLiterals (bumps_view bs) c.args.inputs.now f)
          c.deref-2.ensures.value why.1))
    ])

pub returns-in_err-lines-clause-error : goal.returns-in_err-lines-clause-error
returns-in_err-lines-clause-error c =
    let r = err_from_is_err_and c.from_residual-in_err-lines.result
    c.from_residual-in_err-lines.ensures.1 in
    let all = manifests (project_view c.args.project.now) in
    let f = c.in_err-lines.field-0.0 in
    rw (r.1, r.2) (elim c.in_err-lines.ensures.error [
      | inl none ↦ inl none
      | inr why ↦ inr (of_requirement
          (subst (λ (bs : List Bumping). All (HasLiteral (bumps_view bs)) c.args.inputs.now)
          c.deref-2.ensures.value c.in_ok-check_literals.ensures.literals)
          (subst (λ (bs : List Bumping). AreUnraised (bumps_view bs) all f) c.deref-3.ensures.value why))
    ])

pub outputs_of-requires-clause-apart : goal.outputs_of-requires-clause-apart
outputs_of-requires-clause-apart c =
    subst (λ (bs : List Bumping). AreApart (bumps_view bs)) (sym c.deref-2.ensures.value) c.requires.apart

pub outputs_of-requires-clause-read : goal.outputs_of-requires-clause-read
outputs_of-requires-clause-read c = c.requires.read

pub outputs_of-requires-clause-distinct : goal.outputs_of-requires-clause-distinct
outputs_of-requires-clause-distinct c = c.requires.distinct

pub outputs_of-requires-clause-shared : goal.outputs_of-requires-clause-shared
outputs_of-requires-clause-shared c =
    let is = c.args.inputs.now in
    let n = option_map parts_of c.args.versions.now.next in
    let seen = seen_copied c.as_ref-next.result ∙ ap (option_map parts_of) c.as_ref-next.ensures.value in
    subst (HasSharedVersion is c.as_str.result.now) (sym seen)
    (subst (λ (root : List ℕ). HasSharedVersion is root n) (sym c.as_str.ensures.value) c.requires.shared)

pub returns-in_err-outputs-clause-error : goal.returns-in_err-outputs-clause-error
returns-in_err-outputs-clause-error c =
    let r = err_from_is_err_and c.from_residual-in_err-outputs.result
    c.from_residual-in_err-outputs.ensures.1 in
    let all = manifests (project_view c.args.project.now) in
    let rise = subst (λ (bs : List Bumping). All (AllRiseIn (bumps_view bs)) all)
    (c.deref-3.ensures.value ∙ sym c.deref-2.ensures.value) c.in_ok-lines.ensures.rise in
    rw r.1 (inl (subst IsMemory (sym r.2.0) (c.in_err-outputs.ensures.error
    (all_clear (bumps_view c.deref-2.result.now) all c.args.inputs.now c.in_ok-check_literals.ensures.literals
    rise c.requires.among))))

pub returns-clause-outputs : goal.returns-clause-outputs
returns-clause-outputs c =
    let is = c.args.inputs.now in
    let os = c.in_ok-outputs.outputs.items in
    let seen = seen_copied c.as_ref-next.result ∙ ap (option_map parts_of) c.as_ref-next.ensures.value in
    set_for is os c.as_str.result.now (project_view c.args.project.now).path
    (shared_version_view c.as_ref-next.result) (option_map parts_of c.args.versions.now.next)
    (bumps_view c.deref-2.result.now) (bumps_view c.args.versions.now.bumps.items)
    c.as_str.ensures.value seen (ap bumps_view c.deref-2.ensures.value) c.in_ok-outputs.ensures.outputs

pub returns-clause-in_order : goal.returns-clause-in_order
returns-clause-in_order c = c.in_ok-outputs.ensures.in_order

pub returns-clause-lines : goal.returns-clause-lines
returns-clause-lines c =
    let p = project_view c.args.project.now in
    let old = seen_copied c.as_ref-old.result ∙ ap (option_map parts_of) c.as_ref-old.ensures.value in
    let next = seen_copied c.as_ref-next.result ∙ ap (option_map parts_of) c.as_ref-next.ensures.value in
    c.in_ok-lines-2.ensures.texts
    ∙ ap (map (λ (l : Reported). l.0)) (c.in_ok-lines.ensures.ok ∙ lines_for p (shared_version_view c.as_ref-old.result)
    (option_map parts_of c.args.versions.now.current) (shared_version_view c.as_ref-next.result)
    (option_map parts_of c.args.versions.now.next) (bumps_view c.deref-3.result.now)
    (bumps_view c.args.versions.now.bumps.items) old next (ap bumps_view c.deref-3.ensures.value))

pub returns-clause-changes : goal.returns-clause-changes
returns-clause-changes c =
    let p = project_view c.args.project.now in
    let old = seen_copied c.as_ref-old.result ∙ ap (option_map parts_of) c.as_ref-old.ensures.value in
    let next = seen_copied c.as_ref-next.result ∙ ap (option_map parts_of) c.as_ref-next.ensures.value in
    c.in_ok-lines-2.ensures.changes
    ∙ ap (map (λ (l : Reported). l.1)) (c.in_ok-lines.ensures.ok ∙ lines_for p (shared_version_view c.as_ref-old.result)
    (option_map parts_of c.args.versions.now.current) (shared_version_view c.as_ref-next.result)
    (option_map parts_of c.args.versions.now.next) (bumps_view c.deref-3.result.now)
    (bumps_view c.args.versions.now.bumps.items) old next (ap bumps_view c.deref-3.ensures.value))

pub returns-clause-clear : goal.returns-clause-clear
returns-clause-clear c =
    subst (λ (bs : List Bumping). All (IsInputClearBy (bumps_view bs)) c.args.inputs.now)
    c.deref-2.ensures.value c.in_ok-outputs.ensures.clear
