use Rattle.std.proofs.Common.{sym, ◌∙◌}
use Rattle.edit_document.specs.Items.{step_view}
use Rattle.edit_compare.proofs.Besides.{around_same, around_view, around_parts, around_lacks}
use Rattle.edit_compare.proofs.equal_around.same_around.Goals as goal

pub returns-then-not-same_view-clause-same : goal.returns-then-not-same_view-clause-same
returns-then-not-same_view-clause-same c = (
  λ e. absurd cc,
  λ h. sym c.if-not-same_view.true ∙
      c.same_view.ensures.1 (around_view c.args.document.now c.args.number c.args.other.now
      c.args.there (step_view c.args.step.now) c.lemma_exists.ensures c.lemma_exists-2.ensures h),
)

pub returns-clause-same : goal.returns-clause-same
returns-clause-same c =
    let same = c.same_view.ensures.0 c.if-not-same_view.false in (
      λ e. around_same c.args.document.now c.args.number c.args.other.now c.args.there (step_view c.args.step.now)
          c.lemma_exists.ensures c.lemma_exists-2.ensures c.lemma_tree.ensures.below c.lemma_tree-2.ensures.below
          c.lemma_children.ensures.parts c.lemma_children-2.ensures.parts same (c.same_parts_but.ensures.0 e),
      λ h. c.same_parts_but.ensures.1
          (around_parts c.args.document.now c.args.number c.args.other.now c.args.there
          (step_view c.args.step.now) c.lemma_exists.ensures c.lemma_exists-2.ensures h),
    )

pub returns-clause-absent : goal.returns-clause-absent
returns-clause-absent c e none =
    around_lacks c.args.document.now c.args.number c.args.other.now c.args.there (step_view c.args.step.now)
    c.lemma_exists.ensures c.lemma_exists-2.ensures c.lemma_children-2.ensures.parts c.lemma_children.ensures.stands
    (c.same_view.ensures.0 c.if-not-same_view.false) none
