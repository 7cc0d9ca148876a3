use Rattle.std.proofs.Common.{ℕ, List, take, drop, sym, subst, ap, ◌∙◌}
use Rattle.std.proofs.lemmas.Result.{MatchResult-weaker}
use Rattle.edit_document.specs.Items.{place_view}
use Rattle.edit_tree.specs.Assertions.{IsDocument}
use Rattle.edit_tree.specs.SlotTexts.{TableAt}
use Rattle.edit_rewrite.proofs.ClosestTables.{way_above}
use Rattle.edit_rewrite.proofs.InlineRows.{table_from}
use Rattle.edit_rewrite.proofs.ClosestPairs.{none_inner, closest_inner}
use Rattle.edit_rewrite.proofs.inner.last_inner_of.Goals as goal

pub returns-in_default-clause-found : goal.returns-in_default-clause-found
returns-in_default-clause-found c form m =
    sym (none_inner form (place_view c.args.place.now) m.no_clash
    (c.in_default.ensures {u = tt} form m))

pub returns-clause-found : goal.returns-clause-found
returns-clause-found c form manifest =
    let text = c.as_str-text.result.now in
    let place = place_view c.args.place.now in
    let k = c.in-Some.steps in
    let start = c.in-Some.start in
    let t = c.in-Some.ensures {u = tt} form manifest in
    let m = subst (λ (b : List ℕ). IsDocument b form) (sym c.as_str-text.ensures) manifest in
    let table = c.from_start-table.ensures ∙ ap (λ (b : List ℕ). drop start b) c.as_bytes.ensures.value in
    let at = subst (λ (b : List ℕ). TableAt text b t.1.between t.1.all t.1.placed_value.after) (sym table)
    (table_from text form (take k place) start m c.as_str-text.utf8 t.1) in
    MatchResult-weaker c.last_inner.result
    (c.last_inner.ensures (take k place) t.1.between t.1.all t.1.placed_value.after at (way_above place k t.0))
    (λ o e. e ∙ sym (closest_inner form place m.no_clash k start t.0 t.1 t.2)) (λ d e. tt)

pub returns-clause-error : goal.returns-clause-error
returns-clause-error c =
    let f = c.lemma_form.ensures.some in
    let text = c.as_str-text.result.now in
    let place = place_view c.args.place.now in
    let k = c.in-Some.steps in
    let start = c.in-Some.start in
    let t = c.in-Some.ensures {u = tt} f.0 f.1 in
    let m = subst (λ (b : List ℕ). IsDocument b f.0) (sym c.as_str-text.ensures) f.1 in
    let table = c.from_start-table.ensures ∙ ap (λ (b : List ℕ). drop start b) c.as_bytes.ensures.value in
    let at = subst (λ (b : List ℕ). TableAt text b t.1.between t.1.all t.1.placed_value.after) (sym table)
    (table_from text f.0 (take k place) start m c.as_str-text.utf8 t.1) in
    MatchResult-weaker c.last_inner.result
    (c.last_inner.ensures (take k place) t.1.between t.1.all t.1.placed_value.after at (way_above place k t.0))
    (λ o e. tt) (λ d e. e)
