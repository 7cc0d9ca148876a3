use Rattle.std.proofs.Common.{◌≡◌, ◌∙◌, ap, map, refl, string_bytes, sym}
use Rattle.std.specs.Prelude.{◌&&◌, Bool, is_none}
use Rattle.edit_metadata.specs.Metadata.{PackageModel}
use Rattle.edit_metadata.specs.Workspaces.{package_view}
use Rattle.edit_upgrade.specs.PinViews.{pins_view}
use Rattle.edit_upgrade.specs.Pins.{pin_at}
use Rattle.edit_upgrade.specs.UpdateCalls.{is_among}
use Rattle.edit_upgrade.proofs.Chosen.{chosen-none, chosen-some}
use Rattle.edit_upgrade.proofs.update.chosen.unpinned_packages.Goals as goal
use Rattle.edit_upgrade.proofs.update.chosen.unpinned_packages.Goals.{then-is_unpinned+in_ok-push, else-is_unpinned}

pub packages-preserved : goal.packages-preserved
packages-preserved c =
    let pins = pins_view c.args.pins.now in
    let names = map string_bytes c.args.names.now in
    let name = string_bytes c.package-item.result.name in
    let is_chosen : PackageModel → Bool = λ p. is_among names p.name && is_none (pin_at pins p.name) in
    let test : is_chosen (package_view c.package-item.result) ≡ c.is_unpinned.result =
    sym (c.is_unpinned.ensures
    ∙ ap (λ (b : Bool). b && is_none (pin_at pins name)) (c.in_ok-names.ensures name)) in
    elim c.if-is_unpinned.branch [
      | then-is_unpinned+in_ok-push w ↦
          chosen-some package_view (λ p. p.now) is_chosen c.args.packages.now c.packages.package-index
          c.package-item.result c.packages.found.items c.if-is_unpinned.found.items _ c.packages-test.true
          c.package-item.is (test ∙ w.if-is_unpinned.true) c.packages.invariant
          (ap (λ v. v.items) w.found-is ∙ w.in_ok-push.ensures.items) refl
      | else-is_unpinned w ↦
          chosen-none package_view (λ p. p.now) is_chosen c.args.packages.now c.packages.package-index
          c.package-item.result c.packages.found.items c.if-is_unpinned.found.items c.packages-test.true
          c.package-item.is (test ∙ w.if-is_unpinned.false) c.packages.invariant
          (ap (λ v. v.items) w.found-is)
    ]
