use Rattle.std.proofs.Common.{sym, ◌∙◌}
use Rattle.edit_document.specs.Items.{step_view}
use Rattle.edit_compare.proofs.LostParts.{around_all, around_here, around_else, around_none}
use Rattle.edit_compare.proofs.equal_around_unordered.unordered_around.Goals as goal

pub returns-then-not-same_but_order-clause-same : goal.returns-then-not-same_but_order-clause-same
returns-then-not-same_but_order-clause-same c = (
  λ e. absurd cc,
  λ h. sym c.if-not-same_but_order.true ∙
      c.same_but_order.ensures.1 (around_here c.args.document.now c.args.number
      c.args.other.now c.args.there (step_view c.args.step.now) c.lemma_exists.ensures c.lemma_exists-2.ensures h),
)

pub returns-clause-same : goal.returns-clause-same
returns-clause-same c =
    let views = c.same_but_order.ensures.0 c.if-not-same_but_order.false in (
      λ e. around_all c.args.document.now c.args.number c.args.other.now c.args.there (step_view c.args.step.now)
          c.lemma_exists.ensures c.lemma_exists-2.ensures c.lemma_tree.ensures.below c.lemma_tree-2.ensures.below
          c.lemma_children.ensures.parts c.lemma_children-2.ensures.parts views (c.unordered_parts_but.ensures.0 e),
      λ h. c.unordered_parts_but.ensures.1
          (around_else c.args.document.now c.args.number c.args.other.now c.args.there
          (step_view c.args.step.now) c.lemma_exists.ensures c.lemma_exists-2.ensures h),
    )

pub returns-clause-absent : goal.returns-clause-absent
returns-clause-absent c e none =
    around_none c.args.document.now c.args.number c.args.other.now c.args.there (step_view c.args.step.now)
    c.lemma_exists.ensures c.lemma_exists-2.ensures c.lemma_children-2.ensures.parts c.lemma_children.ensures.stands
    (c.same_but_order.ensures.0 c.if-not-same_but_order.false) none
