use Rattle.std.proofs.Common.{take}
use Rattle.plan_holds.specs.RowNames.{AreRowNames}
use Rattle.plan_holds.proofs.hold_notes.row_names.Given as goal

-- the names of the rows so far
abbrev pub invariant-rows : goal.invariant-rows
invariant-rows l = AreRowNames (take l.row-index l.rows) l.names
