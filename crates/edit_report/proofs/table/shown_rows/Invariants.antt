use Rattle.std.proofs.Common.{◌≡◌, map, take}
use Rattle.std.specs.List.{filter}
use Rattle.edit_report.specs.ShownRows.{is_shown}
use Rattle.edit_report.proofs.table.shown_rows.Given as goal

abbrev pub invariant-loop-row : goal.invariant-loop-row
invariant-loop-row l = map (λ r. r.now) l.shown.items ≡ filter (is_shown l.verbosity) (take l.row-index l.rows)
