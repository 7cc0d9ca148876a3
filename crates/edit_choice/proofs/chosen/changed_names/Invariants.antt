use Rattle.std.proofs.Common.{◌≡◌, List, ℕ, take}
use Rattle.edit_report.specs.NameSets.{has_name}
use Rattle.edit_choice.specs.ChosenRows.{has_change}
use Rattle.edit_choice.proofs.chosen.changed_names.Given as goal

-- the names of the rows so far that change
abbrev pub invariant-rows : goal.invariant-rows
invariant-rows l = (name : List ℕ) → has_name l.names name ≡ has_change name (take l.row-index l.rows)
