use Rattle.std.proofs.Common.{ℕ, Option, Some, option_map, sym, ap, ◌∙◌, subst}
use Rattle.edit_document.specs.Items.{place_view, is_inline}
use Rattle.edit_document.specs.Ranges.{HasTable}
use Rattle.edit_rewrite.proofs.InlineRows.{no_table, no_view, other_value, own_table}
use Rattle.edit_rewrite.proofs.inline.table_start.Goals as goal

pub returns-in_err-start : goal.returns-in_err-start
returns-in_err-start c form m =
    let place = place_view c.args.place.now in
    subst (λ (r : Option ℕ). HasTable form place r) (sym c.from_residual.ensures)
    (no_table form place (c.in_err-start.ensures {u = tt} form m))

pub returns-in_err-item : goal.returns-in_err-item
returns-in_err-item c form m =
    let place = place_view c.args.place.now in
    subst (λ (r : Option ℕ). HasTable form place r) (sym c.from_residual-in_err-item.ensures)
    (no_view form place m.no_clash
    (sym (c.lemma_form.ensures.shows form m place) ∙ c.in_err-item.ensures {u = tt}))

pub returns-then-is_inline_table : goal.returns-then-is_inline_table
returns-then-is_inline_table c form m =
    let place = place_view c.args.place.now in
    own_table form place c.in_ok-start.start c.in_ok-start.field-0-1 m.no_clash
    (c.in_ok-start.ensures {u = tt} form m)
    (ap (option_map is_inline) (sym (c.lemma_form.ensures.shows form m place) ∙
    (c.in_ok-item.ensures {u = tt}).2)
    ∙ ap (λ b. Some b) (sym c.is_inline_table.ensures ∙ c.if-is_inline_table.true))

pub returns-else-is_inline_table : goal.returns-else-is_inline_table
returns-else-is_inline_table c form m =
    let place = place_view c.args.place.now in
    other_value form place m.no_clash
    (ap (option_map is_inline) (sym (c.lemma_form.ensures.shows form m place) ∙
    (c.in_ok-item.ensures {u = tt}).2)
    ∙ ap (λ b. Some b) (sym c.is_inline_table.ensures ∙ c.if-is_inline_table.false))
