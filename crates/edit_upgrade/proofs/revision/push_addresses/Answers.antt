use Rattle.std.proofs.Common.{◌∙◌, List, [], ap, append-nil, arith, map, option_map, string_bytes, subst, sym}
use Rattle.std.proofs.lemmas.List.{map-append, take_all}
use Rattle.edit_sources.specs.declared.config.Config.{Config}
use Rattle.edit_upgrade.specs.Addresses.{AreAddresses}
use Rattle.edit_upgrade.specs.Found.{row_entry_view}
use Rattle.edit_upgrade.specs.Revisions.{AddsAddresses}
use Rattle.edit_upgrade.specs.declared.entries_with_rows.Entry.{Entry}
use Rattle.edit_upgrade.proofs.AddressLemmas.{own-addresses}
use Rattle.edit_upgrade.proofs.RevisedInputs.{address_more, item_resolved}
use Rattle.edit_upgrade.proofs.revision.push_addresses.Goals as goal

pub entries-init : goal.entries-init
entries-init c = record {
  addresses = c.requires.addresses;
  found = ([], sym (append-nil (map (option_map string_bytes) c.args.found.now.items)), tt);
}

pub address_of-requires : goal.address_of-requires
address_of-requires c = record {
  addresses = own-addresses c.args.addresses.now.configs.now c.entries.addresses c.entries.invariant.addresses;
  resolved = item_resolved row_entry_view c.args.addresses.now.configs.now c.entries.addresses.configs.now
      c.args.entries.now c.entries.entry-index c.entry-item.result c.requires.resolved c.entries-test.true
      c.entry-item.is c.entries.invariant.addresses.own;
}

pub entries-preserved : goal.entries-preserved
entries-preserved c =
    let under = c.entries.invariant.addresses.own in
    record {
      addresses = subst (λ (cs : List Config). AreAddresses cs c.address_of.new.addresses) under
          c.in_ok-address.ensures.addresses;
      found = address_more row_entry_view c.args.addresses.now.configs.now c.entries.addresses.configs.now
          c.args.entries.now c.entries.entry-index c.entry-item.result
          (map (option_map string_bytes) c.args.found.now.items)
          (map (option_map string_bytes) c.entries.found.items)
          (map (option_map string_bytes) c.push.new.self.items)
          (option_map string_bytes c.in_ok-address.address) c.entries-test.true c.entry-item.is under
          c.entries.invariant.found c.in_ok-address.ensures.address
          (ap (map (option_map string_bytes)) c.in_ok-push.ensures.items
          ∙ map-append (option_map string_bytes) c.entries.found.items _);
    }

pub returns-clause-found : goal.returns-clause-found
returns-clause-found c =
    let whole = take_all c.entries.entry-index c.args.entries.now (omega (arith, c.entries-test.false)) in
    subst (λ (es : List Entry). AddsAddresses c.args.addresses.now.configs.now (map row_entry_view es)
    (map (option_map string_bytes) c.args.found.now.items) (map (option_map string_bytes) c.entries.found.items))
    whole c.entries.invariant.found
