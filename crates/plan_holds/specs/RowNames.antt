-- The names of rows in a set.
use Rattle.std.specs.Prelude.{◌≡◌, ℕ, List}
use Rattle.std.specs.Borrow.{Bor}
use Rattle.std.specs.BTreeSet.{BTreeSet}
use Rattle.edit_report.specs.NameSets.{has_name}
use Rattle.edit_report.specs.declared.row.Row.{Row}
use Rattle.plan_holds.specs.HoldNotes.{has_row}

-- a set has the names of these rows, and no others (own)
abbrev pub AreRowNames : List Row → BTreeSet (Bor (List ℕ)) → Type 0
AreRowNames rows names = (name : List ℕ) → has_name names name ≡ has_row name rows
