use Rattle.std.proofs.Common.{◌∙◌, ap, ap₂, subst}
use Rattle.std.specs.Io.KnownBytes.{Appends}
use Rattle.std.proofs.KnownBytes.{Appends-trans}
use Rattle.edit_terminal.specs.Rows as spec
use Rattle.edit_terminal.specs.Styles.{style_if}
use Rattle.edit_terminal.proofs.RowLemmas.{flat_map_range_more}
use Rattle.edit_terminal.proofs.rows.write_row.Goals as goal

pub loop-i-preserved : goal.loop-i-preserved
loop-i-preserved g c =
    let before = g.W.Write.contents c.args.to.now in
    let now = g.W.Write.contents c.loop-i.to in
    let after = g.W.Write.contents c.write_cell.new.to in
    let style = c.style_if-style.ensures ∙ ap (style_if c.args.wanted) c.cell_style.ensures in
    let text = c.in-Ok.ensures.cases.0 ∙ c.cell.ensures in
    subst (Appends before after)
    (flat_map_range_more (λ i. spec.cell_text
    (style_if c.args.wanted (spec.cell_style c.args.starts.now c.args.line.now i))
    (spec.cell c.args.starts.now c.args.line.now i)) c.loop-i.i)
    (Appends-trans before now after _ _ c.loop-i.invariant
    (subst (Appends now after) (ap₂ spec.cell_text style text) c.in_ok-write_cell-in-Ok.ensures))
