use Rattle.std.proofs.Common.{take}
use Rattle.edit_choice.specs.ItemLookup.{AreEnds}
use Rattle.edit_choice.proofs.item_lookup.ends_of.Given as goal

-- the greatest last numbers of the items so far
abbrev pub invariant-items : goal.invariant-items
invariant-items l = AreEnds (take l.item-index l.items) l.ends
