use Rattle.std.proofs.Common.{◌≡◌, ◌≢◌, ◌⊎◌, [], subst, true}
use Rattle.std.specs.List.{filter}
use Rattle.std.proofs.lemmas.Result.{err_from_is_err_and}
use Rattle.edit_base.specs.Errors.{IsMemory}
use Rattle.edit_base.specs.declared.errors.Error.TheVariants.{NoVersionPlace}
use Rattle.edit_manifest.specs.Versions.{IsNoValue, package_version}
use Rattle.edit_syntax.specs.Grammar.{Text}
use Rattle.edit_tree.specs.Assertions.{IsDocument}
use Rattle.edit_tree.specs.Tree.{is_value_at}
use Rattle.edit_set_version.specs.Crates.{bumps_view}
use Rattle.edit_set_version.specs.SetVersioned.{writes_own}
use Rattle.edit_set_version.proofs.EditsStand.{clear_rise, unvalued_memory, written_clear}
use Rattle.edit_set_version.proofs.outputs.edits_of.Goals as goal

pub returns-in_err-push_own-clause-error : goal.returns-in_err-push_own-clause-error
returns-in_err-push_own-clause-error c =
    let bs = bumps_view c.args.writing.now.bumps.now in
    let m = c.args.manifest.now in
    let e = c.in_err-push_own.field-0.0 in
    let p = err_from_is_err_and c.from_residual-in_err-push_own.result
    c.from_residual-in_err-push_own.ensures.1 in
    rw (p.1, p.2) (unvalued_memory bs c.args.input.now m e c.requires.read
    (subst (λ path. IsMemory e ⊎ ((e ≡ NoVersionPlace) × (filter (writes_own path) bs ≢ [])
    × IsNoValue m.document package_version)) c.as_str-path.ensures.value c.in_err-push_own.ensures.error))

pub returns-in_err-push_dependents-clause-error : goal.returns-in_err-push_dependents-clause-error
returns-in_err-push_dependents-clause-error c =
    let bs = bumps_view c.args.writing.now.bumps.now in
    let m = c.args.manifest.now in
    let p = err_from_is_err_and c.from_residual-in_err-push_dependents.result
    c.from_residual-in_err-push_dependents.ensures.1 in
    rw (p.1, p.2) (λ clear. c.in_err-push_dependents.ensures.error
    (clear_rise bs c.args.input.now m c.requires.read clear))

pub returns-clause-clear : goal.returns-clause-clear
returns-clause-clear c =
    let bs = bumps_view c.args.writing.now.bumps.now in
    let m = c.args.manifest.now in
    written_clear bs c.args.input.now m c.requires.read
    (subst (λ path. filter (writes_own path) bs ≢ [] → (form : Text) → IsDocument m.document.bytes form
    → is_value_at form package_version ≡ true) c.as_str-path.ensures.value c.in_ok-push_own.ensures.literal)
    c.in_ok-push_dependents.ensures.rise
