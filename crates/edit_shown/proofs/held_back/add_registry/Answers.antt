use Rattle.std.proofs.Common.{◌∙◌, ap, map, string_bytes, sym}
use Rattle.std.specs.Prelude.{if◌then◌else◌}
use Rattle.url.specs.Parts.{serialize}
use Rattle.edit_lookups.specs.UserinfoAddresses.{strip_userinfo}
use Rattle.edit_shown.specs.HeldBack.{with_text}
use Rattle.edit_shown.proofs.HeldBackLemmas.{inserted}
use Rattle.edit_shown.proofs.held_back.add_registry.Goals as goal

pub returns-then-not-is_without_times : goal.returns-then-not-is_without_times
returns-then-not-is_without_times c =
    let before = map string_bytes c.args.registries.now.keys in
    let address = strip_userinfo (serialize c.args.lookup.now.registry) in
    sym (ap (λ b. if b then with_text before address else before)
    (sym c.is_without_times.ensures ∙ c.if-not-is_without_times.true))

pub returns : goal.returns
returns c =
    let before = map string_bytes c.args.registries.now.keys in
    let address = strip_userinfo (serialize c.args.lookup.now.registry) in
    ap (map string_bytes) c.in_ok-insert.ensures.keys
    ∙ inserted c.args.registries.now.keys c.in_ok-address.address
    ∙ ap (with_text before) (c.in_ok-address.ensures ∙ ap strip_userinfo c.address_of.ensures)
    ∙ sym (ap (λ b. if b then with_text before address else before)
    (sym c.is_without_times.ensures ∙ c.if-not-is_without_times.false))
