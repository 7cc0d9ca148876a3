use Rattle.std.proofs.Common.{ℕ, List, sym, subst, ⊎_elim}
use Rattle.edit_syntax.proofs.Members.{among_append, among_contained}
use Rattle.edit_rewrite.specs.PairOffsets.{HasPairOffsets}
use Rattle.edit_document.specs.Items.{place_view}
use Rattle.edit_tree.specs.Assertions.{IsDocument}
use Rattle.edit_tree.specs.Statements.{line_pairs, inner_pairs}
use Rattle.edit_rewrite.proofs.LineEntries.{around_right}
use Rattle.edit_tree.proofs.LonePairs.{some_pair}
use Rattle.edit_rewrite.proofs.replace_entry.entry_offsets.Goals as goal

pub unreachable-requires : goal.unreachable-requires
unreachable-requires c =
    let f = c.lemma_form.ensures.some in
    let place = place_view c.args.place.now in
    let one = c.requires.one f.0 f.1 in
    let here : IsDocument c.as_str.result.now f.0 =
    subst (λ (b : List ℕ). IsDocument b f.0) (sym c.as_str.ensures) f.1 in
    let lines = subst (HasPairOffsets place (line_pairs f.0)) c.in_default.is
    ((c.in_ok-offsets.ensures {u = tt}).outcome f.0 here one) in
    let inner =
    subst (HasPairOffsets place (inner_pairs f.0)) c.in-None.is ((c.in_ok-offsets-2.ensures {u = tt}).outcome f.0 f.1) in
    some_pair f.0 place one
    (λ p m. ⊎_elim (λ l. lines p (among_contained p (line_pairs f.0) l))
    (λ r. inner p (among_contained p (inner_pairs f.0) r)) (among_append p (line_pairs f.0)
    (inner_pairs f.0) m))

pub returns-clause-around : goal.returns-clause-around
returns-clause-around c form m =
    let place = place_view c.args.place.now in
    around_right place (line_pairs form) (inner_pairs form) c.in-Some-2.offsets
    (subst (HasPairOffsets place (inner_pairs form)) c.in-Some-2.is ((c.in_ok-offsets-2.ensures {u = tt}).outcome form m))
