use Rattle.edit_terminal.proofs.RowLemmas.{cell_part}
use Rattle.edit_terminal.proofs.rows.cell.Goals as goal

pub returns : goal.returns
returns c =
    cell_part c.args.line.now _ _ c.column_start-from.result c.column_end.result c.min-end.result c.min.result
    c.column_start-from.ensures c.column_end.ensures c.min-end.ensures c.min.ensures
