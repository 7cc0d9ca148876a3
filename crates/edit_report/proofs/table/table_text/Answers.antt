-- The table of the rows that are shown is the table of the report.
use Rattle.std.proofs.Common.{◌<◌, ◌∷◌, ◌∙◌, Bor, List, ap, arith, length, map, w8, ℤ}
use Rattle.std.specs.List.{filter, list_any}
use Rattle.std.proofs.lemmas.Grind.{common_steps}
use Rattle.std.proofs.lemmas.Int.{to_z-of_z}
use Rattle.edit_report.specs.ShownRows.{is_shown}
use Rattle.edit_report.proofs.TableLemmas.{table_from}
use Rattle.edit_report.specs.Table.{Cells, columns, headings, has_note_text, lines_text, row_cells, table_of, underlines}
use Rattle.edit_report.specs.Widths.{cells_of}
use Rattle.edit_report.specs.declared.row.Row.{Row}
use Rattle.edit_report.proofs.table.table_text.Goals as goal

pub returns-clause-text : goal.returns-clause-text
returns-clause-text c =
    let rows = c.in_ok-rows.rows.items in
    let some : 0 < length rows = grind (arith, common_steps) in
    let noted = c.has_any_note.ensures
    ∙ ap (λ (rs : List (Bor Row)). list_any (λ r. has_note_text r.now) rs) c.as_slice-3.ensures.value in
    let cells = ap (map cells_of) c.as_slice-2.ensures.value ∙ c.in_ok-lines.ensures.ok
    ∙ ap (λ (rs : List (Bor Row)). headings ∷ underlines ∷ map (λ r. row_cells r.now) rs)
    c.as_slice.ensures.value in
    let e = ap (λ n. lines_text (columns n) (map cells_of c.as_slice-2.result.now)) noted
    ∙ ap (λ (ls : List Cells). lines_text (columns (list_any (λ r. has_note_text r.now) rows)) ls) cells
    ∙ table_from (λ r. r.now) rows some
    ∙ ap table_of c.in_ok-rows.ensures.ok
    ∙ ap (λ (v : ℤ). table_of (filter (is_shown v) c.args.rows.now))
    (to_z-of_z w8 c.args.verbosity c.ranges.verbosity) in
    c.in_ok-text.ensures.ok ∙ e
