use Rattle.std.proofs.Common.{map, option_map, string_bytes, take}
use Rattle.edit_upgrade.specs.Addresses.{AreAddresses}
use Rattle.edit_upgrade.specs.Found.{row_entry_view}
use Rattle.edit_upgrade.specs.Revisions.{AddsAddresses}
use Rattle.edit_upgrade.proofs.revision.push_addresses.Given as goal

-- the addresses of the entries so far were appended
abbrev pub invariant-entries : goal.invariant-entries
invariant-entries l = record {
  addresses : AreAddresses l.fn.addresses.configs.now l.addresses;
  found : AddsAddresses l.fn.addresses.configs.now (map row_entry_view (take l.entry-index l.entries))
      (map (option_map string_bytes) l.fn.found.items) (map (option_map string_bytes) l.found.items);
}
