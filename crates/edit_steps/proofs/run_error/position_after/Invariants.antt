use Rattle.std.proofs.Common.{◌≡◌, ◌≤◌, ◌+◌, take}
use Rattle.std.specs.List.{fold}
use Rattle.edit_steps.specs.Printed.{advance_position}
use Rattle.edit_steps.proofs.run_error.position_after.Given as goal

-- the place behind the bytes so far; neither number is past their count
abbrev pub invariant-loop-byte : goal.invariant-loop-byte
invariant-loop-byte l = record {
  place : (l.behind.line, l.behind.column) ≡ fold advance_position (1, 1) (take l.byte-index l.before);
  line : l.behind.line ≤ l.byte-index + 1;
  column : l.behind.column ≤ l.byte-index + 1;
}
