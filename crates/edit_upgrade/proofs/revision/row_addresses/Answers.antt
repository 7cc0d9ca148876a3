use Rattle.std.proofs.Common.{◌≡◌, ◌∙◌, List, ap, arith, length, map, option_map, string_bytes, subst, sym}
use Rattle.edit_upgrade.specs.ConfigLists.{chosen_lists}
use Rattle.edit_upgrade.specs.Found.{row_entry_view}
use Rattle.edit_upgrade.specs.PlannedView.{AreRowEntries}
use Rattle.edit_upgrade.specs.Revisions.{AddsAddresses}
use Rattle.edit_upgrade.specs.declared.entries_with_rows.Entry.{Entry}
use Rattle.edit_upgrade.proofs.AddressCaches.{input-addresses, input-list, none-cached, still-for}
use Rattle.edit_upgrade.proofs.ConfigListLemmas.{chosen-length}
use Rattle.edit_upgrade.proofs.FurtherInputs.{given-at}
use Rattle.edit_upgrade.proofs.RevisedInputs.{addresses_end, addresses_next, addresses_start, next_manifest, next_resolved, plain_at}
use Rattle.edit_upgrade.proofs.RevisionLemmas.{utf8_at}
use Rattle.edit_upgrade.proofs.revision.row_addresses.Goals as goal

pub inputs-init : goal.inputs-init
inputs-init c = record {
  up_to = addresses_start c.args.inputs.now (chosen_lists c.args.lists.now c.args.which.now)
      (map (option_map string_bytes) c.new-found.result.items) c.requires.resolved.0
      (ap (map (option_map string_bytes)) c.new-found.ensures.items) c.requires.resolved.1;
  caches = none-cached c.args.lists.now c.new-caches.result c.new-caches.ensures.empty;
  long = chosen-length c.args.lists.now c.args.which.now c.requires.lists ∙ c.requires.configurations;
}

pub input_entries-requires : goal.input_entries-requires
input_entries-requires c =
    let configs = chosen_lists c.args.lists.now c.args.which.now in
    let long : length configs ≡ length c.args.inputs.now = c.inputs.invariant.long in
    record {
      document = given-at c.args.inputs.now c.args.documents.now c.inputs.i c.index-inputs-i.result _
          c.requires.documents c.inputs-test.true c.index-inputs-i.is c.document_at-document.ensures;
      utf8 = utf8_at c.args.inputs.now c.args.documents.now c.inputs.i c.index-inputs-i.result _
          c.requires.documents c.requires.utf8 c.inputs-test.true c.index-inputs-i.is
          c.document_at-document.ensures;
      manifest = next_manifest (map (option_map string_bytes) c.inputs.found.items) c.inputs.invariant.up_to
          (plain_at c.args.inputs.now configs c.inputs.i c.index-inputs-i.result c.inputs-test.true long
          c.index-inputs-i.is).1;
    }

pub push_addresses-requires : goal.push_addresses-requires
push_addresses-requires c =
    let configs = chosen_lists c.args.lists.now c.args.which.now in
    let long : length configs ≡ length c.args.inputs.now = c.inputs.invariant.long in
    record {
      addresses = input-addresses c.args.inputs.now c.args.lists.now configs c.inputs.i c.list_index-list.result
          c.index-inputs-i.result c.take_addresses-addresses.result c.inputs-test.true long c.index-inputs-i.is
          c.list_index-list.ensures.within c.list_index-list.ensures.list
          c.take_addresses-addresses.ensures.addresses;
      resolved = next_resolved (map (option_map string_bytes) c.inputs.found.items)
          (map row_entry_view c.deref.result.now) c.inputs.invariant.up_to
          (input-list c.args.inputs.now c.args.lists.now configs c.inputs.i c.list_index-list.result
          c.index-inputs-i.result c.take_addresses-addresses.result c.inputs-test.true long c.index-inputs-i.is
          c.list_index-list.ensures.within c.list_index-list.ensures.list
          c.take_addresses-addresses.ensures.addresses).1
          (subst (λ (es : List Entry). AreRowEntries c.index-inputs-i.result.bytes.items (map row_entry_view es))
          (sym c.deref.ensures.value) c.in_ok-entries.ensures.entries);
    }

pub keep_addresses-requires : goal.keep_addresses-requires
keep_addresses-requires c = record {
  addresses = still-for c.args.lists.now c.list_index-list.result c.take_addresses-addresses.result
      c.push_addresses.new.addresses c.take_addresses-addresses.ensures.addresses
      c.in_ok-push_addresses.ensures.addresses;
  caches = c.take_addresses-addresses.ensures.caches;
}

pub inputs-preserved : goal.inputs-preserved
inputs-preserved c =
    let configs = chosen_lists c.args.lists.now c.args.which.now in
    let long : length configs ≡ length c.args.inputs.now = c.inputs.invariant.long in
    record {
      up_to = addresses_next (map (option_map string_bytes) c.inputs.found.items)
          (map (option_map string_bytes) c.push_addresses.new.found.items)
          (map row_entry_view c.deref.result.now) c.inputs.invariant.up_to
          (input-list c.args.inputs.now c.args.lists.now configs c.inputs.i c.list_index-list.result
          c.index-inputs-i.result c.take_addresses-addresses.result c.inputs-test.true long c.index-inputs-i.is
          c.list_index-list.ensures.within c.list_index-list.ensures.list
          c.take_addresses-addresses.ensures.addresses).1
          (subst (λ (es : List Entry). AreRowEntries c.index-inputs-i.result.bytes.items (map row_entry_view es))
          (sym c.deref.ensures.value) c.in_ok-entries.ensures.entries)
          c.in_ok-push_addresses.ensures.found;
      caches = c.in_ok-keep_addresses.ensures.caches;
      long = long;
    }

pub returns-clause-addresses : goal.returns-clause-addresses
returns-clause-addresses c =
    addresses_end c.args.inputs.now (chosen_lists c.args.lists.now c.args.which.now) c.inputs.i
    (map (option_map string_bytes) c.inputs.found.items) c.inputs.invariant.up_to
    (omega (arith, c.inputs-test.false))
