use Rattle.std.proofs.Common.{◌∙◌}
use Rattle.edit_document.specs.Items.{place_view}
use Rattle.edit_rewrite.proofs.TakenStatements.{pair_taken}
use Rattle.edit_rewrite.proofs.locate.SearchState.take_pair.Goals as goal

pub returns-clause-taken : goal.returns-clause-taken
returns-clause-taken c s kind t stands =
    let taken = pair_taken c.args.text.now (place_view c.args.place.now) c.args.tokens.now s c.args.offsets
    (c.in_ok-named.named, c.in_ok-named.front) c.args.self.now c.is_at.result c.is_at_or_below.result kind t stands
    (λ table resolve n ns h follows begins. (c.in_ok-named.ensures {u = tt}).goes table resolve n ns h follows
    begins) c.is_at.ensures c.is_at_or_below.ensures in
    (c.entry.ensures ∙ taken.0, taken.1)
