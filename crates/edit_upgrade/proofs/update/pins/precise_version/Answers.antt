use Rattle.std.proofs.Common.{◌≡◌, ◌∙◌, Option, Some, None, ap, append-nil, map, option_map, sym, take}
use Rattle.std.specs.List.{filter_map}
use Rattle.semver.specs.Identifiers.{comparator_view, parts_of}
use Rattle.semver.specs.Parse.{Parts}
use Rattle.edit_upgrade.proofs.Steps.{names-more}
use Rattle.edit_version.specs.Greatest.{pick}
use Rattle.edit_version.specs.VersionOrder.{full_order}
use Rattle.edit_upgrade.specs.Pins.{greatest, named_version, precise_version}
use Rattle.edit_upgrade.proofs.Entries.{greatest-more, precise-more}
use Rattle.edit_upgrade.proofs.update.pins.precise_version.Goals as goal
use Rattle.edit_upgrade.proofs.update.pins.precise_version.Goals.{in-Some, in-None}

pub comparators-preserved : goal.comparators-preserved
comparators-preserved c =
    let x = comparator_view c.comparator-item.result in
    let before = map comparator_view (take c.comparators.comparator-index c.args.comparators.now) in
    let named = filter_map named_version before in
    let more = names-more comparator_view c.args.comparators.now c.comparators.comparator-index
    c.comparator-item.result c.comparators-test.true c.comparator-item.is in
    elim c.match-named.branch [
      | in-Some w ↦
          let v = parts_of w.in-Some.version in
          let e : Some v ≡ named_version x =
          sym (ap (option_map parts_of) w.in-Some.is) ∙ c.in_ok-named.ensures in
          ap (option_map parts_of) w.best-is ∙ ap Some w.greater_version.ensures
          ∙ ap (λ (o : Option Parts). Some (pick full_order o v)) c.comparators.invariant
          ∙ sym (greatest-more named v) ∙ sym (precise-more before x (Some v) e)
          ∙ ap precise_version (sym more)
      | in-None w ↦
          let e : None ≡ named_version x =
          sym (ap (option_map parts_of) w.in-None.is) ∙ c.in_ok-named.ensures in
          ap (option_map parts_of) w.best-is ∙ c.comparators.invariant
          ∙ sym (precise-more before x None e ∙ ap greatest (append-nil named))
          ∙ ap precise_version (sym more)
    ]
