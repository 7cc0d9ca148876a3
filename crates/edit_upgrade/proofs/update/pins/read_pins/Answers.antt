use Rattle.std.proofs.Common.{◌≡◌, ◌⊎◌, ◌∙◌, List, ℕ, ap, drop, inr, map, option_map, rules, string_bytes, subst, suc, sym, take}
use Rattle.std.specs.Prelude.{All, Option, option_and_then}
use Rattle.std.specs.BTreeMap.{insert_entry}
use Rattle.std.specs.Cmp.Lexicographic.{slice_cmp}
use Rattle.std.specs.Ordering.{nat_cmp}
use Rattle.std.proofs.lemmas.List.Elements.{All-push}
use Rattle.edit_base.specs.Errors.{IsMemory}
use Rattle.edit_upgrade.proofs.Steps.{names-more, names-split}
use Rattle.edit_version.specs.CrateSpecs.{IsInvalidSpec, spec_name}
use Rattle.edit_upgrade.specs.PinViews.{pin_entry_view, pin_view}
use Rattle.edit_upgrade.specs.Pins as spec
use Rattle.edit_upgrade.specs.EntrySelection.{IsPackageArg}
use Rattle.edit_upgrade.specs.OptionCauses.{FailsAtPackageArg}
use Rattle.edit_upgrade.specs.Pins.{pin_of, pins_of, with_package_arg, arg_pin}
use Rattle.edit_upgrade.proofs.Entries.{insert-seen, arg-more}
use Rattle.edit_upgrade.proofs.update.pins.read_pins.Goals as goal

pub returns-in_err-spec-clause-error : goal.returns-in_err-spec-clause-error
returns-in_err-spec-clause-error c =
    let args = c.args.args.now in
    let i = c.each_arg.arg-index in
    let e = c.in_err-spec.field-0.0 in
    let why : IsMemory e ⊎ FailsAtPackageArg (map string_bytes args) e = inr (record {
      front = map string_bytes (take i args);
      arg = string_bytes c.arg-item.result;
      rest = map string_bytes (drop (suc i) args);
      split = names-split string_bytes args i c.arg-item.result c.each_arg-test.true c.arg-item.is;
      read = c.each_arg.invariant.read;
      refused = subst (λ (w : List ℕ). IsInvalidSpec w e) c.as_str.ensures.value
          c.in_err-spec.ensures.error;
    }) in
    search (rules, why)

pub each_arg-preserved : goal.each_arg-preserved
each_arg-preserved c =
    let args = c.args.args.now in
    let i = c.each_arg.arg-index in
    let before = map string_bytes (take i args) in
    let arg = c.as_str.result.now in
    let own = string_bytes c.arg-item.result in
    let said = c.in_ok-spec.ensures.ok in
    let more = names-more string_bytes args i c.arg-item.result c.each_arg-test.true c.arg-item.is in
    let pin = option_map pin_view c.in_ok-pin.pin in
    let key = string_bytes c.in_ok-spec.spec.name in
    let is_pin : pin ≡ arg_pin arg = c.in_ok-pin.ensures.ok
    ∙ ap (λ o. option_and_then pin_of (option_map string_bytes o)) c.as_ref.ensures.value
    ∙ ap (option_and_then pin_of) said.requirement in
    record {
      pins = ap (map pin_entry_view) c.in_ok-insert.ensures.entries
          ∙ insert-seen c.each_arg.pins.entries c.in_ok-spec.spec.name c.in_ok-pin.pin
          ∙ ap (λ es. insert_entry (slice_cmp nat_cmp) es key pin) c.each_arg.invariant.pins
          ∙ ap (λ (k : List ℕ). insert_entry (slice_cmp nat_cmp) (pins_of before) k pin) said.crate_name
          ∙ ap (λ (p : Option spec.Pin). insert_entry (slice_cmp nat_cmp) (pins_of before) (spec_name arg) p)
          is_pin
          ∙ ap (with_package_arg (pins_of before)) c.as_str.ensures.value
          ∙ sym (arg-more before own) ∙ ap pins_of (sym more);
      read = subst (All IsPackageArg) (sym more) (All-push IsPackageArg before own c.each_arg.invariant.read
          (subst IsPackageArg c.as_str.ensures.value (said.fit, said.readable)));
    }
