use Rattle.std.proofs.Common.{◌≡◌, ◌∷◌, map, take}
use Rattle.edit_report.specs.Table.{headings, row_cells, underlines}
use Rattle.edit_report.specs.Widths.{cells_of}
use Rattle.edit_report.proofs.table.table_lines.Given as goal

abbrev pub invariant-loop-row : goal.invariant-loop-row
invariant-loop-row l = map cells_of l.lines.items
    ≡ headings ∷ underlines ∷ map (λ r. row_cells r.now) (take l.row-index l.rows)
