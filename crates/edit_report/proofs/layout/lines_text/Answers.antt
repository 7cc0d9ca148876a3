-- The text for columns with their widths is the text of the table.
use Rattle.std.proofs.Common.{◌≡◌, ◌∙◌, IfOk, List, ap, map, subst, ℕ}
use Rattle.std.specs.Prelude.{string_bytes}
use Rattle.std.specs.List.{flat_map}
use Rattle.edit_report.proofs.TableLemmas.{lines_from}
use Rattle.edit_report.specs.Table.{lines_text}
use Rattle.edit_report.specs.Widths.{cells_of, sized_line}
use Rattle.edit_report.proofs.layout.lines_text.Goals as goal

pub returns : goal.returns
returns c =
    let lines = c.args.lines.now in
    let e = ap (λ ws. flat_map (λ l. sized_line ws (cells_of l)) lines)
    (c.as_slice.ensures.value ∙ c.in_ok-columns.ensures.ok)
    ∙ lines_from lines c.columns.result.now
    ∙ ap (λ cs. lines_text cs (map cells_of lines)) c.columns.ensures in
    record {
      ok = subst (λ (t : List ℕ). IfOk c.sized_text.result (λ s. string_bytes s ≡ t)) e c.sized_text.ensures.ok;
    }
