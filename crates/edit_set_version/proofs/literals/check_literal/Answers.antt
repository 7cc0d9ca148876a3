use Rattle.std.proofs.Common.{◌≡◌, ◌≢◌, ◌⊎◌, [], subst, true}
use Rattle.std.specs.List.{filter}
use Rattle.std.proofs.lemmas.Result.{err_from_is_err_and}
use Rattle.edit_base.specs.Errors.{IsMemory}
use Rattle.edit_base.specs.declared.errors.Error.TheVariants.{NoVersionPlace}
use Rattle.edit_manifest.specs.Versions.{IsNoValue, package_version}
use Rattle.edit_syntax.specs.Grammar.{Text}
use Rattle.edit_tree.specs.Assertions.{IsDocument}
use Rattle.edit_tree.specs.Tree.{is_value_at}
use Rattle.edit_set_version.specs.Crates.{bumps_view}
use Rattle.edit_set_version.specs.SetVersioned.{writes_own}
use Rattle.edit_set_version.proofs.EditsStand.{has_literal, lacks_literal}
use Rattle.edit_set_version.proofs.literals.check_literal.Goals as goal

pub returns-in_err-push_own-clause-error : goal.returns-in_err-push_own-clause-error
returns-in_err-push_own-clause-error c =
    let bs = bumps_view c.args.writing.now.bumps.now in
    let m = c.args.manifest.now in
    let e = c.in_err-push_own.field-0.0 in
    let p = err_from_is_err_and c.from_residual.result c.from_residual.ensures.1 in
    rw (p.1, p.2) (lacks_literal bs c.args.input.now m e c.requires.read
    (subst (λ path. IsMemory e ⊎ ((e ≡ NoVersionPlace) × (filter (writes_own path) bs ≢ [])
    × IsNoValue m.document package_version)) c.as_str-path.ensures.value c.in_err-push_own.ensures.error))

pub returns-clause-literal : goal.returns-clause-literal
returns-clause-literal c =
    let bs = bumps_view c.args.writing.now.bumps.now in
    let m = c.args.manifest.now in
    has_literal bs c.args.input.now m c.requires.read
    (subst (λ path. filter (writes_own path) bs ≢ [] → (form : Text) → IsDocument m.document.bytes form
    → is_value_at form package_version ≡ true) c.as_str-path.ensures.value c.in_ok-push_own.ensures.literal)
