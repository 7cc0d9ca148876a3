use Rattle.std.specs.Io.KnownBytes.{Appends}
use Rattle.std.specs.List.{flat_map, range_with_len}
use Rattle.edit_terminal.specs.Rows as spec
use Rattle.edit_terminal.specs.Styles.{style_if}
use Rattle.edit_terminal.proofs.rows.write_row.Given as goal

-- the cells so far were written
abbrev pub invariant-loop-i : goal.invariant-loop-i
invariant-loop-i g l =
    Appends (g.W.Write.contents l.initial.to) (g.W.Write.contents l.to) (flat_map
    (λ i. spec.cell_text (style_if l.wanted (spec.cell_style l.starts l.line i)) (spec.cell l.starts l.line i))
    (range_with_len 0 l.i))
