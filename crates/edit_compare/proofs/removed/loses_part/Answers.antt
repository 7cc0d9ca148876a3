use Rattle.std.proofs.Common.{sym, ◌∙◌}
use Rattle.edit_document.specs.Items.{step_view}
use Rattle.edit_compare.proofs.LosesParts.{part_view, part_parts, part_all}
use Rattle.edit_compare.proofs.removed.loses_part.Goals as goal

pub returns-then-not-loses_view : goal.returns-then-not-loses_view
returns-then-not-loses_view c = (
  λ e. absurd cc,
  λ h. sym c.if-not-loses_view.true ∙
      c.loses_view.ensures.1 (part_view c.args.document.now c.args.number c.args.other.now
      c.args.there (step_view c.args.step.now) c.lemma_exists.ensures c.lemma_exists-2.ensures h),
)

pub returns : goal.returns
returns c = (
  λ e. part_all c.args.document.now c.args.number c.args.other.now c.args.there (step_view c.args.step.now)
      c.lemma_exists.ensures c.lemma_exists-2.ensures c.lemma_tree.ensures.below c.lemma_tree-2.ensures.below
      c.lemma_children.ensures.parts c.lemma_children-2.ensures.parts c.lemma_children.ensures.keys c.requires.part
      c.lemma_children.ensures.steps (c.loses_view.ensures.0 c.if-not-loses_view.false) (c.moved_parts.ensures.0 e),
  λ h. c.moved_parts.ensures.1 (part_parts c.args.document.now c.args.number c.args.other.now c.args.there
      (step_view c.args.step.now) c.lemma_exists.ensures c.lemma_exists-2.ensures h),
)
