use Rattle.std.proofs.Common.{◌≡◌, ◌∷◌, ◌++◌, ◌∙◌, List, ap, append_assoc, map, option_map, string_bytes, sym}
use Rattle.std.specs.Prelude.{Option, option_copied}
use Rattle.std.specs.Map.Iter.{deref_pair}
use Rattle.std.proofs.lemmas.Map.Iter.{rest_more}
use Rattle.edit_metadata.specs.Metadata.{PackageModel}
use Rattle.edit_metadata.specs.Workspaces.{packages_view}
use Rattle.edit_upgrade.specs.Groups.{group}
use Rattle.edit_upgrade.specs.PinViews.{pin_entry_view, pin_view}
use Rattle.edit_upgrade.specs.UpdateCalls.{Call, entry_calls, packages_named, precise_calls}
use Rattle.edit_upgrade.specs.Views.{calls_view}
use Rattle.edit_upgrade.specs.declared.update.pins.Pin.{Pin}
use Rattle.edit_upgrade.proofs.CachedAnswer.{group-said}
use Rattle.edit_upgrade.proofs.update.precise.precise_calls.Goals as goal

pub pins-preserved : goal.pins-preserved
pins-preserved c =
    let manifest = c.args.manifest.now in
    let packages = packages_view c.args.packages.now in
    let name = c.as_str.result.now in
    let old = calls_view c.pins.calls.items in
    let rest = precise_calls manifest packages (map pin_entry_view c.next.new.self) in
    let step : c.pins.name-iterator ≡ (c.in-Some.name.now, c.in-Some.pin.now) ∷ c.next.new.self =
    rest_more deref_pair c.pins.name-iterator c.next.new.self c.next.result
    (c.in-Some.name, c.in-Some.pin) c.in-Some.is c.next.ensures.steps in
    let those : packages_view (group c.in_ok-groups.groups name)
    ≡ packages_named (string_bytes c.in-Some.name.now) packages =
    ap packages_view (c.in_ok-groups.ensures name) ∙ group-said name c.args.packages.now
    ∙ ap (λ k. packages_named k packages) c.as_str.ensures.value in
    let pin = option_map pin_view c.in-Some.pin.now in
    let own = entry_calls manifest (packages_named (string_bytes c.in-Some.name.now) packages) pin in
    let new : calls_view c.add_entry.new.calls.items ≡ old ++ own = c.in_ok-add_entry.ensures
    ∙ ap (λ (ps : List PackageModel). old ++ entry_calls manifest ps
    (option_map pin_view (option_copied c.as_ref.result))) those
    ∙ ap (λ (o : Option Pin). old ++ entry_calls manifest
    (packages_named (string_bytes c.in-Some.name.now) packages) (option_map pin_view o)) c.as_ref.ensures.value in
    ap (λ (l : List Call). l ++ rest) new ∙ append_assoc old own rest
    ∙ sym (ap (λ es. old ++ precise_calls manifest packages (map pin_entry_view es)) step)
    ∙ c.pins.invariant
