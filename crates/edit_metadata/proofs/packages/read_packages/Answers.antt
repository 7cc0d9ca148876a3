use Rattle.std.proofs.Common.{◌+◌, map, ap, sym, ◌∙◌, subst, take, inl, inr, ⊎_elim, rules}
use Rattle.std.specs.List.{AllZip}
use Rattle.std.proofs.lemmas.List.{map_push}
use Rattle.serde_json.specs.View.{view}
use Rattle.edit_metadata.specs.Metadata.{IsPackageValue}
use Rattle.edit_metadata.specs.Reading.{IsReadingError, holds}
use Rattle.edit_metadata.specs.Workspaces.{package_view}
use Rattle.edit_metadata.proofs.Zipped.{none-zipped, zipped-more}
use Rattle.edit_metadata.proofs.packages.read_packages.Goals as goal

pub values-preserved : goal.values-preserved
values-preserved c =
    let pushed = ap (map package_view) c.in_ok-push.ensures.items
    ∙ map_push package_view c.values.packages.items c.in_ok-package.package in
    subst (λ ps. AllZip (IsPackageValue (holds c.args.ids.now))
    (map view (take (c.values.value-index + 1) c.args.values.now)) ps) (sym pushed)
    (zipped-more view (IsPackageValue (holds c.args.ids.now)) c.args.values.now
    (map package_view c.values.packages.items) c.values.value-index c.value-item.result
    (package_view c.in_ok-package.package)
    c.values-test.true c.value-item.is c.values.invariant c.in_ok-package.ensures)

pub returns-in_err-package : goal.returns-in_err-package
returns-in_err-package c =
    let why : IsReadingError (AllZip (IsPackageValue (holds c.args.ids.now)) (map view c.args.values.now))
    c.in_err-package.field-0.0
    = ⊎_elim (λ memory. inl memory) (λ unsaid. inr (
      unsaid.0,
      none-zipped view
          (IsPackageValue (holds c.args.ids.now)) c.args.values.now c.values.value-index c.value-item.result
          c.values-test.true c.value-item.is unsaid.1,
    ))
    c.in_err-package.ensures in
    search (rules, why)
