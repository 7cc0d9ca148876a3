use Rattle.edit_compare.proofs.Besides.{part_decides, part_lacks}
use Rattle.edit_compare.proofs.equal_around.same_part.Goals as goal

pub returns-in_default-counterpart : goal.returns-in_default-counterpart
returns-in_default-counterpart c = (
  λ e. absurd cc,
  λ h. absurd (part_lacks c.args.document.now c.args.number c.args.other.now c.args.there c.args.index
      c.in-Some.part
      (c.in-Some.ensures {u = tt}) c.lemma_children.ensures.stands (c.in_default-counterpart.ensures {u = tt}) h),
)

pub returns : goal.returns
returns c =
    part_decides c.args.document.now c.args.number c.args.other.now c.args.there c.args.index c.in-Some.part
    c.in-Some-counterpart.other_part c.same_below.result (c.in-Some.ensures {u = tt})
    (c.in-Some-counterpart.ensures {u = tt}) c.same_below.ensures
