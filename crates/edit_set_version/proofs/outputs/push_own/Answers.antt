use Rattle.std.proofs.Common.{◌≡◌, ◌∙◌, ◌++◌, ◌∷◌, [], ap, append-nil, inl, inr, map, option_map, refl, sym}
use Rattle.std.specs.Prelude.{option_to_list}
use Rattle.std.proofs.lemmas.List.{map-append}
use Rattle.std.proofs.lemmas.Result.{err_from_is_err_and}
use Rattle.semver.specs.Identifiers.{parts_text}
use Rattle.edit_document.specs.Items.{place_view}
use Rattle.edit_document.specs.Ranges.{edit_views}
use Rattle.edit_manifest.specs.Versions.{package_version}
use Rattle.edit_tree.specs.Replaces.{Edits}
use Rattle.edit_tree.specs.Tree.{is_value_at}
use Rattle.edit_set_version.specs.Crates.{bump_view, bumps_view}
use Rattle.edit_set_version.specs.SetVersioned.{Bump}
use Rattle.edit_set_version.proofs.OwnBump.{own_edits, place_written}
use Rattle.edit_set_version.proofs.outputs.push_own.Goals as goal

pub returns-in_default-clause-ok : goal.returns-in_default-clause-ok
returns-in_default-clause-ok c =
    let was = edit_views c.args.edits.now.items in
    let none = c.in_ok-bump.ensures.ok
    ∙ ap (λ o. option_to_list (option_map (λ b. bump_view b.now) o)) c.in_default.is in
    sym (ap (λ (ys : Edits). was ++ ys)
    (own_edits c.args.path.now (bumps_view c.args.writing.now.bumps.now)
    ∙ ap (map (λ (b : Bump). (package_version, parts_text b.next))) none) ∙ append-nil was)

pub returns-clause-ok : goal.returns-clause-ok
returns-clause-ok c =
    let was = edit_views c.args.edits.now.items in
    let one = c.in_ok-bump.ensures.ok
    ∙ ap (λ o. option_to_list (option_map (λ b. bump_view b.now) o)) c.in-Some.is in
    ap edit_views c.in_ok-push.ensures.items
    ∙ map-append _ c.args.edits.now.items (c.in_ok-edit.edit ∷ [])
    ∙ ap (λ (ys : Edits). was ++ ys) (c.in_ok-edit.ensures
    ∙ sym (own_edits c.args.path.now (bumps_view c.args.writing.now.bumps.now)
    ∙ ap (map (λ (b : Bump). (package_version, parts_text b.next))) one))

pub returns-in_err-bump-clause-error : goal.returns-in_err-bump-clause-error
returns-in_err-bump-clause-error c =
    let r = err_from_is_err_and c.from_residual.result c.from_residual.ensures.1 in
    rw (r.1, r.2) (inl c.in_err-bump.ensures.error)

pub returns-in_default-clause-literal : goal.returns-in_default-clause-literal
returns-in_default-clause-literal c = λ some form is.
    absurd (some (c.in_ok-bump.ensures.ok
    ∙ ap (λ o. option_to_list (option_map (λ b. bump_view b.now) o)) c.in_default.is))

pub returns-in_err-edit-clause-error : goal.returns-in_err-edit-clause-error
returns-in_err-edit-clause-error c =
    let r = err_from_is_err_and c.from_residual-in_err-edit.result c.from_residual-in_err-edit.ensures.1 in
    rw (r.1, r.2) (inl refl)

pub returns-then-not-is_value-clause-error : goal.returns-then-not-is_value-clause-error
returns-then-not-is_value-clause-error c =
    let one = c.in_ok-bump.ensures.ok
    ∙ ap (λ o. option_to_list (option_map (λ b. bump_view b.now) o)) c.in-Some.is in
    let at : place_view c.deref.result.now ≡ package_version
    = ap place_view c.deref.ensures.value ∙ place_written _ _ _ _ c.in_ok-edit.ensures in
    inr (
      refl,
      λ none. cc (sym one ∙ none),
      λ form is. sym (ap (is_value_at form) at) ∙ sym (c.is_value.ensures form is) ∙ c.if-not-is_value.true,
    )

pub returns-in_err-push-clause-error : goal.returns-in_err-push-clause-error
returns-in_err-push-clause-error c =
    let r = err_from_is_err_and c.from_residual-in_err-push.result c.from_residual-in_err-push.ensures.1 in
    rw (r.1, r.2) (inl refl)

pub returns-clause-literal : goal.returns-clause-literal
returns-clause-literal c = λ some form is.
    let at : place_view c.deref.result.now ≡ package_version
    = ap place_view c.deref.ensures.value ∙ place_written _ _ _ _ c.in_ok-edit.ensures in
    sym (ap (is_value_at form) at) ∙ sym (c.is_value.ensures form is) ∙ c.if-not-is_value.false
