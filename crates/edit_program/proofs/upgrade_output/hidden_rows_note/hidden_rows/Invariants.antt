use Rattle.std.proofs.Common.{◌≡◌, map, take}
use Rattle.edit_program.specs.StderrText.{hidden_rows}
use Rattle.edit_program.proofs.upgrade_output.hidden_rows_note.hidden_rows.Given as goal

abbrev pub invariant-loop-row : goal.invariant-loop-row
invariant-loop-row l = map (λ r. r.now) l.hidden.items ≡ hidden_rows l.verbosity (take l.row-index l.rows)
