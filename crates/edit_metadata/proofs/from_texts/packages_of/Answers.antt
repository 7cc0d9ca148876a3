use Rattle.std.proofs.Common.{◌+◌, [], ◌∷◌, ◌++◌, ◌∙◌, ap, get_or, map, None, sym, subst, take}
use Rattle.std.specs.List.{AllZip}
use Rattle.std.specs.Prelude.{IfSome}
use Rattle.std.proofs.lemmas.List.{map_push, take_more}
use Rattle.std.proofs.lemmas.Slice.Zip.{all_zipped_more}
use Rattle.serde_json.specs.Data.{Data}
use Rattle.edit_metadata.specs.Metadata.{IsPackageValue}
use Rattle.edit_metadata.specs.Reading.{holds}
use Rattle.edit_metadata.specs.Texts.{HasPackageTexts}
use Rattle.edit_metadata.specs.Workspaces.{package_view}
use Rattle.edit_metadata.specs.declared.package_texts.PackageTexts.{PackageTexts}
use Rattle.edit_metadata.proofs.Zipped.{zipped-last, zipped-none}
use Rattle.edit_metadata.proofs.from_texts.packages_of.Goals as goal

pub texts-init : goal.texts-init
texts-init c = λ ds all.
    subst (λ ps. AllZip (IsPackageValue (holds c.args.ids.now)) ds (map package_view ps))
    (sym c.in_ok-packages.ensures.items)
    (zipped-none HasPackageTexts (IsPackageValue (holds c.args.ids.now)) ds all)

pub texts-preserved : goal.texts-preserved
texts-preserved c = λ ds all.
    let i = c.texts.package-index in
    let ts = c.args.texts.now in
    let none : PackageTexts = record { name = None; id = None; manifest_path = None; version = None; source = None; rust_version = None } in
    let t = get_or ts i none in
    let parts = zipped-last HasPackageTexts ds (take i ts) t (subst (λ xs. AllZip HasPackageTexts ds xs) (take_more ts i none c.texts-test.true) all) in
    let says = subst (λ o. IfSome o (λ p. (d : Data) → HasPackageTexts d t → IsPackageValue (holds c.args.ids.now) d (package_view p)))
    c.in-Some.is c.in_ok-package.ensures.ok in
    let before = c.texts.packages.items in
    let pushed = ap (map package_view) c.in_ok-push-in-Some.ensures.items ∙ map_push package_view before c.in-Some.package in
    subst (λ ps. AllZip (IsPackageValue (holds c.args.ids.now)) ds ps) (sym pushed)
    (subst (λ xs. AllZip (IsPackageValue (holds c.args.ids.now)) xs (map package_view before ++ package_view c.in-Some.package ∷ [])) (sym parts.2)
    (all_zipped_more (IsPackageValue (holds c.args.ids.now)) parts.0 (map package_view before) parts.1 (package_view c.in-Some.package)
    (c.texts.invariant parts.0 parts.3) (says parts.1 parts.4)))
