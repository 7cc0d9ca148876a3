use Rattle.std.proofs.Common.{◌≡◌, ◌++◌, take}
use Rattle.std.specs.List.{flat_map}
use Rattle.std.specs.Prelude.{codes, string_bytes}
use Rattle.edit_report.specs.Table.{padded}
use Rattle.edit_report.specs.Widths.{cells_of, column_of}
use Rattle.edit_report.proofs.layout.push_cells.Given as goal

abbrev pub invariant-loop-wide : goal.invariant-loop-wide
invariant-loop-wide l = string_bytes l.text ≡ string_bytes l.initial.text
    ++ flat_map (λ w. codes " " ++ padded w.width (column_of w.column (cells_of l.line)))
    (take l.wide-index l.others)
