use Rattle.edit_document.specs.Items.{node_place, step_view}
use Rattle.edit_document.specs.ItemRemoval.{moved_place}
use Rattle.edit_compare.proofs.LostParts.{part_there, part_missing}
use Rattle.edit_compare.proofs.removed.moved_part.Goals as goal

pub same_unordered-requires-clause-there : goal.same_unordered-requires-clause-there
same_unordered-requires-clause-there c =
    let p = c.in-Some.ensures {u = tt} in
    (c.in-Some-moved_counterpart.ensures {u = tt} p.0 p.1).2

pub returns-in_default-moved_counterpart : goal.returns-in_default-moved_counterpart
returns-in_default-moved_counterpart c = (
  λ e. absurd cc,
  λ h. absurd (part_missing
      (moved_place (step_view c.args.step.now) (node_place c.args.other.now c.args.there))
      c.args.document.now c.args.number c.args.other.now c.args.index c.in-Some.part (c.in-Some.ensures {u = tt})
      c.lemma_children.ensures.stands (c.in_default-moved_counterpart.ensures {u = tt}) h),
)

pub returns : goal.returns
returns c =
    part_there (moved_place (step_view c.args.step.now) (node_place c.args.other.now c.args.there))
    c.args.document.now
    c.args.number c.args.other.now c.args.index c.in-Some.part c.in-Some-moved_counterpart.other_part
    c.same_unordered.result (c.in-Some.ensures {u = tt}) (c.in-Some-moved_counterpart.ensures {u = tt})
    c.same_unordered.ensures
