-- The lines written for columns with their widths are the text of the table.
use Rattle.std.proofs.Common.{◌∙◌, ap, map, subst}
use Rattle.std.specs.Io.KnownBytes.{Appends}
use Rattle.std.specs.List.{flat_map}
use Rattle.std.proofs.lemmas.Result.{on_ok_weaker}
use Rattle.edit_report.proofs.TableLemmas.{lines_from}
use Rattle.edit_report.specs.Table.{lines_text}
use Rattle.edit_report.specs.Widths.{cells_of, sized_line}
use Rattle.edit_report.proofs.layout.write_lines.Goals as goal

pub returns-clause-bytes : goal.returns-clause-bytes
returns-clause-bytes g c =
    let lines = c.args.lines.now in
    let e = ap (λ ws. flat_map (λ l. sized_line ws (cells_of l)) lines)
    (c.as_slice.ensures.value ∙ c.in_ok-columns.ensures.ok)
    ∙ lines_from lines c.columns.result.now
    ∙ ap (λ cs. lines_text cs (map cells_of lines)) c.columns.ensures in
    on_ok_weaker c.write_sized.result
    (λ h. subst (Appends (g.W.Write.contents c.args.out.now) (g.W.Write.contents c.write_sized.new.out)) e h)
    c.write_sized.ensures.bytes
