use Rattle.edit_tree.specs.Assertions.{at}
use Rattle.edit_document.specs.Items.{node_place}
use Rattle.edit_compare.proofs.LostParts.{part_there, part_missing}
use Rattle.edit_compare.proofs.equal_around_unordered.unordered_part.Goals as goal

pub returns-in_default-counterpart : goal.returns-in_default-counterpart
returns-in_default-counterpart c = (
  λ e. absurd cc,
  λ h. absurd (part_missing (at (node_place c.args.other.now c.args.there)) c.args.document.now c.args.number
      c.args.other.now c.args.index c.in-Some.part (c.in-Some.ensures {u = tt}) c.lemma_children.ensures.stands
      (c.in_default-counterpart.ensures {u = tt}) h),
)

pub returns : goal.returns
returns c =
    part_there (at (node_place c.args.other.now c.args.there)) c.args.document.now c.args.number
    c.args.other.now
    c.args.index c.in-Some.part c.in-Some-counterpart.other_part c.same_unordered.result
    (c.in-Some.ensures {u = tt}) (c.in-Some-counterpart.ensures {u = tt}) c.same_unordered.ensures
