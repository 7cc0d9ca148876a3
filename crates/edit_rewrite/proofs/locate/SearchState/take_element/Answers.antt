use Rattle.std.proofs.Common.{ℕ, List, refl, sym, ap, subst, ◌∙◌}
use Rattle.edit_document.specs.Items.{place_view}
use Rattle.edit_tree.specs.Assertions.{index}
use Rattle.edit_rewrite.specs.Entries.{Follows, extend_path_match, count_on}
use Rattle.edit_rewrite.proofs.TakenStatements.{element_taken}
use Rattle.edit_rewrite.proofs.locate.SearchState.take_element.Goals as goal

pub returns-clause-taken : goal.returns-clause-taken
returns-clause-taken c s kind t stands =
    let target = place_view c.args.place.now in
    let named = c.in_ok-named.named in
    let taken = element_taken c.args.text.now target c.args.tokens.now s c.args.offsets
    (named, c.in_ok-named.front) c.args.self.now
    (record { prefix = c.step_by_index-element.result; counts = c.count_more.new.counts })
    c.step_by_index-element.result c.is_at.result c.is_at_or_below.result kind t stands
    (λ table resolve n ns h follows begins. (c.in_ok-named.ensures {u = tt}).goes table resolve n ns h
    (subst (λ (xs : List ℕ). Follows target xs resolve) (sym c.deref.ensures.value) follows) begins)
    (c.step_by_index-element.ensures ∙ ap (λ (n : ℕ). extend_path_match target named (index n))
    (c.count_on.ensures ∙ ap (λ (xs : List ℕ). count_on xs named) c.deref-2.ensures.value))
    refl (c.in_ok-count_more.ensures {u = tt}).counted c.is_at.ensures c.is_at_or_below.ensures in
    (c.entry.ensures ∙ taken.0, taken.1)
