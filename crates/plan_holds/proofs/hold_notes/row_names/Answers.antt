use Rattle.std.proofs.Common.{◌∙◌, ◌||◌, ap, string_bytes, sym, take}
use Rattle.std.proofs.lemmas.List.Folds.{list_any_more}
use Rattle.std.specs.Str.{bytes_eq}
use Rattle.edit_report.proofs.NameSetLemmas.{name_more}
use Rattle.edit_report.specs.declared.row.Row.{Row}
use Rattle.plan_holds.specs.HoldNotes.{has_row}
use Rattle.plan_holds.proofs.hold_notes.row_names.Goals as goal

pub rows-preserved : goal.rows-preserved
rows-preserved c = λ name.
    let xs = c.args.rows.now in
    let i = c.rows.row-index in
    let before = has_row name (take i xs) in
    let is_named = λ (r : Row). bytes_eq (string_bytes r.name) name in
    name_more c.as_str.result.now c.rows.names c.insert.new.self c.in_ok-insert.ensures.updates name
    ∙ ap (λ b. b || bytes_eq c.as_str.result.now name) (c.rows.invariant name)
    ∙ ap (λ k. before || bytes_eq k name) c.as_str.ensures.value
    ∙ ap (λ (r : Row). before || is_named r) c.row-item.is
    ∙ sym (list_any_more is_named xs i _ c.rows-test.true)
