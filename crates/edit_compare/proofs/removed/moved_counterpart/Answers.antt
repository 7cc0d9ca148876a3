use Rattle.std.proofs.Common.{Bor, ℕ, List, option_map, sym, ap, ◌∙◌}
use Rattle.edit_document.specs.Items.{node_place, node_view, step_view}
use Rattle.edit_compare.proofs.LosesViews.{key_moves, index_moves}
use Rattle.edit_compare.proofs.removed.moved_counterpart.Goals as goal

pub returns-in-Some : goal.returns-in-Some
returns-in-Some c s part =
    key_moves (node_view c.args.document.now c.args.number) c.lemma_children.ensures.steps c.args.index
    c.in-Some.name.now
    (sym c.member_name.ensures ∙ ap (option_map (λ (t : Bor (List ℕ)). t.now)) c.in-Some.is) c.args.other.now
    (step_view c.args.step.now) (node_place c.args.other.now c.args.there) c.member.result
    c.member.ensures s part

pub returns-in-None : goal.returns-in-None
returns-in-None c s part =
    index_moves (node_view c.args.document.now c.args.number) c.lemma_children.ensures.steps c.args.index
    c.moved_index.result
    (sym c.member_name.ensures ∙ ap (option_map (λ (t : Bor (List ℕ)). t.now)) c.in-None.is) c.args.other.now
    (step_view c.args.step.now) (node_place c.args.other.now c.args.there) c.element.result
    c.moved_index.ensures c.element.ensures s part
