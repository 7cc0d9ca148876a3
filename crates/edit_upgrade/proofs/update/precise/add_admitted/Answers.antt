use Rattle.std.proofs.Common.{◌∙◌, ap, sym}
use Rattle.std.specs.Prelude.{Bool}
use Rattle.edit_metadata.specs.Metadata.{PackageModel}
use Rattle.edit_metadata.specs.Workspaces.{package_view}
use Rattle.edit_version.specs.Admits.{admits}
use Rattle.edit_upgrade.specs.PinViews.{pin_view}
use Rattle.edit_upgrade.specs.UpdateCalls.{precise_call}
use Rattle.edit_upgrade.specs.Views.{calls_view, args_view}
use Rattle.edit_upgrade.proofs.Chosen.{added-none, added-some}
use Rattle.edit_upgrade.proofs.update.precise.add_admitted.Goals as goal
use Rattle.edit_upgrade.proofs.update.precise.add_admitted.Goals.{then-admits+in_ok-call+in_ok-push, else-admits}

pub packages-preserved : goal.packages-preserved
packages-preserved c =
    let pin = pin_view c.args.pin.now in
    let is_chosen : PackageModel → Bool = λ p. admits pin.comparators p.version in
    let made = precise_call c.args.manifest.now pin in
    let first = calls_view c.args.calls.now.items in
    elim c.if-admits.branch [
      | then-admits+in_ok-call+in_ok-push w ↦
          added-some package_view (λ p. p.now) is_chosen made (λ call. args_view call.items)
          c.args.packages.now c.packages.package-index c.package-item.result first c.packages.calls.items
          c.if-admits.calls.items w.in_ok-call.call c.packages-test.true c.package-item.is
          (sym c.admits.ensures ∙ w.if-admits.true) c.packages.invariant
          (ap (λ v. v.items) w.calls-is ∙ w.in_ok-push.ensures.items) w.in_ok-call.ensures
      | else-admits w ↦
          added-none package_view (λ p. p.now) is_chosen made (λ call. args_view call.items)
          c.args.packages.now c.packages.package-index c.package-item.result first c.packages.calls.items
          c.if-admits.calls.items c.packages-test.true c.package-item.is
          (sym c.admits.ensures ∙ w.if-admits.false) c.packages.invariant
          (ap (λ v. v.items) w.calls-is)
    ]
