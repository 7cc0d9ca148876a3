use Rattle.std.proofs.Common.{◌≡◌, ◌∙◌, Bor, List, Option, ap, map}
use Rattle.std.specs.List.{filter_map}
use Rattle.std.proofs.lemmas.Result.{IfOk-weaker}
use mathlib.Core.Path.{fun_ext}
use Rattle.edit_lock_bounds.specs.Changes.{changed_packages}
use Rattle.edit_lock_bounds.specs.Choices.{Known, known_of}
use Rattle.edit_lock_bounds.specs.Corrections.{Correction, correction_by}
use Rattle.edit_lock_bounds.specs.LockPackages.{Package}
use Rattle.edit_lock_bounds.specs.Views.{borrowed_package, change_view, known_in, limits_view}
use Rattle.edit_lock_bounds.specs.declared.packages.Package.{Package as RustPackage}
use Rattle.edit_lock_bounds.proofs.corrections.corrections_in.Goals as goal

pub returns-clause-ok : goal.returns-clause-ok
returns-clause-ok c =
    let changed = changed_packages (change_view c.args.change.now) in
    let found : Package → Option Correction
    = λ p. correction_by (known_in c.in_ok-facts.facts p.name) p in
    let said : Package → Option Correction
    = λ p. correction_by (known_of (limits_view c.args.bounds.now) p.name) p in
    let same : found ≡ said = fun_ext (λ p. ap (λ (k : Known). correction_by k p) (c.in_ok-facts.ensures.ok p.name)) in
    IfOk-weaker c.corrections_for.result _ _
    (λ v e. e
    ∙ ap (λ (ps : List (Bor RustPackage)). filter_map found (map borrowed_package ps)) c.deref.ensures.value
    ∙ ap (λ (ps : List Package). filter_map found ps) c.in_ok-changed.ensures
    ∙ ap (λ (f : Package → Option Correction). filter_map f changed) same)
    c.corrections_for.ensures.ok
