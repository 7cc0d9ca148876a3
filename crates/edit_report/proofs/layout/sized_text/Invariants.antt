use Rattle.std.proofs.Common.{◌≡◌, take}
use Rattle.std.specs.List.{flat_map}
use Rattle.std.specs.Prelude.{string_bytes}
use Rattle.edit_report.specs.Widths.{cells_of, sized_line}
use Rattle.edit_report.proofs.layout.sized_text.Given as goal

abbrev pub invariant-loop-line : goal.invariant-loop-line
invariant-loop-line l = string_bytes l.text
    ≡ flat_map (λ line. sized_line l.columns (cells_of line)) (take l.line-index l.lines)
