use Rattle.std.proofs.Common.{◌≡◌, ◌++◌, List}
use Rattle.edit_choice.specs.ChosenRows.{AreChosenFrom, count_changes}
use Rattle.edit_choice.specs.ItemLookup.{IsLookupOf, IsReach}
use Rattle.edit_choice.specs.declared.items.RowItem.{RowItem}
use Rattle.edit_choice.proofs.chosen.chosen_rows.Given as goal

-- the rows so far, of which the chosen ones change, how many of them change, and the greatest last number of
-- the ranges that begin at this number or before
abbrev pub invariant-rows : goal.invariant-rows
invariant-rows l = record {
  chosen : AreChosenFrom l.choice 0 l.yielded l.chosen.items;
  number : l.number ≡ count_changes l.yielded;
  reach : (items : List RowItem) → IsLookupOf items l.lookup → IsReach items l.number l.reach;
  rest : l.yielded ++ l.row-iterator.rest.items ≡ l.fn.rows.items;
}
