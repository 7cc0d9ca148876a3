use Rattle.std.proofs.Common.{◌≡◌, length, map, option_map, string_bytes}
use Rattle.edit_upgrade.specs.Addresses.{AreCaches}
use Rattle.edit_upgrade.specs.ConfigLists.{chosen_lists}
use Rattle.edit_upgrade.proofs.RevisedInputs.{IsAddressedUpTo}
use Rattle.edit_upgrade.proofs.revision.row_addresses.Given as goal

-- the addresses of the inputs so far
abbrev pub invariant-inputs : goal.invariant-inputs
invariant-inputs l = record {
  up_to : IsAddressedUpTo l.inputs (chosen_lists l.lists l.which) l.i
      (map (option_map string_bytes) l.found.items);
  caches : AreCaches l.lists l.caches;
  long : length (chosen_lists l.lists l.which) ≡ length l.inputs;
}
