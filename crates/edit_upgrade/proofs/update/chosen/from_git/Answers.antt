use Rattle.std.proofs.Common.{◌≡◌, ◌∙◌, ap, map, refl, string_bytes, sym}
use Rattle.std.specs.Prelude.{◌&&◌, Bool}
use Rattle.edit_metadata.specs.Metadata.{PackageModel}
use Rattle.edit_metadata.specs.Workspaces.{package_view}
use Rattle.edit_upgrade.specs.UpdateCalls.{is_among, is_from_git}
use Rattle.edit_upgrade.proofs.Chosen.{chosen-none, chosen-some}
use Rattle.edit_upgrade.proofs.update.chosen.from_git.Goals as goal
use Rattle.edit_upgrade.proofs.update.chosen.from_git.Goals.{then-is_named_from_git+in_ok-push, else-is_named_from_git}

pub packages-preserved : goal.packages-preserved
packages-preserved c =
    let names = map string_bytes c.args.names.now in
    let name = string_bytes c.package-item.result.name in
    let is_chosen : PackageModel → Bool = λ p. is_among names p.name && is_from_git p in
    let test : is_chosen (package_view c.package-item.result) ≡ c.is_named_from_git.result =
    sym (c.is_named_from_git.ensures
    ∙ ap (λ (b : Bool). b && is_from_git (package_view c.package-item.result))
    (c.in_ok-names.ensures name)) in
    elim c.if-is_named_from_git.branch [
      | then-is_named_from_git+in_ok-push w ↦
          chosen-some package_view (λ p. p.now) is_chosen c.args.packages.now c.packages.package-index
          c.package-item.result c.packages.found.items c.if-is_named_from_git.found.items _
          c.packages-test.true c.package-item.is (test ∙ w.if-is_named_from_git.true) c.packages.invariant
          (ap (λ v. v.items) w.found-is ∙ w.in_ok-push.ensures.items) refl
      | else-is_named_from_git w ↦
          chosen-none package_view (λ p. p.now) is_chosen c.args.packages.now c.packages.package-index
          c.package-item.result c.packages.found.items c.if-is_named_from_git.found.items c.packages-test.true
          c.package-item.is (test ∙ w.if-is_named_from_git.false) c.packages.invariant
          (ap (λ v. v.items) w.found-is)
    ]
