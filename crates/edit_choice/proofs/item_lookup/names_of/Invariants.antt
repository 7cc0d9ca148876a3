use Rattle.std.proofs.Common.{take}
use Rattle.edit_choice.specs.ItemLookup.{AreNames}
use Rattle.edit_choice.proofs.item_lookup.names_of.Given as goal

-- the names among the items so far
abbrev pub invariant-items : goal.invariant-items
invariant-items l = AreNames (take l.item-index l.items) l.names
