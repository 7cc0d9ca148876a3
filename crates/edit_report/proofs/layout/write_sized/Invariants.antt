use Rattle.std.proofs.Common.{◌≡◌, ◌++◌, List, take, ℕ}
use Rattle.std.specs.Io.KnownBytes.{Appends}
use Rattle.std.specs.List.{flat_map}
use Rattle.std.specs.Prelude.{string_bytes}
use Rattle.edit_report.specs.Widths.{cells_of, sized_line}
use Rattle.edit_report.proofs.layout.write_sized.Given as goal

-- the lines so far are those that were written and those in the text
abbrev pub invariant-loop-line : goal.invariant-loop-line
invariant-loop-line g l =
    (full : List ℕ) × Appends (g.W.Write.contents l.initial.out) (g.W.Write.contents l.out) full
    × (flat_map (λ line. sized_line l.columns (cells_of line)) (take l.line-index l.lines)
    ≡ full ++ string_bytes l.text)
