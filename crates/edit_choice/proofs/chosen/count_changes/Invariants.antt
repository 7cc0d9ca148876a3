use Rattle.std.proofs.Common.{◌≡◌, ◌≤◌, take}
use Rattle.edit_choice.specs.ChosenRows.{count_changes}
use Rattle.edit_choice.proofs.chosen.count_changes.Given as goal

-- the number of the rows so far that change
abbrev pub invariant-rows : goal.invariant-rows
invariant-rows l = (l.count ≡ count_changes (take l.row-index l.rows)) × (l.count ≤ l.row-index)
