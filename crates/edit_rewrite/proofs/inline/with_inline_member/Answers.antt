use Rattle.std.proofs.Common.{ℕ, List, drop, sym, subst, ap, ap₂, ◌∙◌}
use Rattle.std.proofs.lemmas.Result.{err_from_is_err_and}
use Rattle.edit_syntax.specs.Grammar.{inline}
use Rattle.edit_tree.specs.EditBytes.{Splice, with_splice, inline_grown}
use Rattle.edit_document.specs.Items.{place_view}
use Rattle.edit_tree.specs.Assertions.{IsDocument}
use Rattle.edit_tree.specs.SlotTexts.{TableAt}
use Rattle.edit_rewrite.proofs.InlineRows.{no_inline, table_from, table_inserted, grown_some}
use Rattle.edit_rewrite.proofs.SlotSteps.{keeps_memory}
use Rattle.edit_rewrite.proofs.inline.with_inline_member.Goals as goal

pub returns-in_default-clause-text : goal.returns-in_default-clause-text
returns-in_default-clause-text c form name v m is =
    no_inline form (place_view c.args.place.now) c.args.pair.now (c.in_default.ensures {u = tt} form m)

pub returns-in_err-grown-clause-error : goal.returns-in_err-grown-clause-error
returns-in_err-grown-clause-error c =
    let f = c.lemma_form.ensures.some in
    let text = c.as_str-text.result.now in
    let start = c.in-Some.start in
    let place = place_view c.args.place.now in
    let t = c.in-Some.ensures {u = tt} f.0 f.1 in
    let m = subst (λ (b : List ℕ). IsDocument b f.0) (sym c.as_str-text.ensures) f.1 in
    let table = c.from_start-table.ensures ∙ ap (λ (b : List ℕ). drop start b) c.as_bytes.ensures.value in
    let at = subst (λ (b : List ℕ). TableAt text b t.between t.all t.placed_value.after) (sym table)
    (table_from text f.0 place start m c.as_str-text.utf8 t) in
    let s = grown_some c.args.pair.now t.between t.all t.placed_value.after in
    let p = err_from_is_err_and c.from_residual.result c.from_residual.ensures.1 in
    keeps_memory c.from_residual.result c.in_err-grown.field-0.0 p.0 _ p.1 p.2
    (c.in_err-grown.ensures {u = tt} t.between t.all t.placed_value.after s.0 at s.1)

pub returns-clause-text : goal.returns-clause-text
returns-clause-text c form name v manifest is =
    let text = c.as_str-text.result.now in
    let start = c.in-Some.start in
    let place = place_view c.args.place.now in
    let t = c.in-Some.ensures {u = tt} form manifest in
    let m = subst (λ (b : List ℕ). IsDocument b form) (sym c.as_str-text.ensures) manifest in
    let table = c.from_start-table.ensures ∙ ap (λ (b : List ℕ). drop start b) c.as_bytes.ensures.value in
    let at = subst (λ (b : List ℕ). TableAt text b t.between t.all t.placed_value.after) (sym table)
    (table_from text form place start m c.as_str-text.utf8 t) in
    let s = table_inserted form place name v start manifest.no_clash t in
    c.in_ok-grown.ensures {u = tt} t.between t.all t.placed_value.after s.0 at
    (ap (λ (b : List ℕ). inline_grown b (inline t.between t.all) t.placed_value.after) is ∙ s.1)
    ∙ ap₂ (λ (b : List ℕ) (x : Splice). with_splice b x) m.grammar.spelled (sym s.2)
