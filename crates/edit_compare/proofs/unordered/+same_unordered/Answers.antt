use Rattle.std.proofs.Common.{List, [], ◌∷◌, length, length-append, sym, ap, ◌∙◌, refl, arith}
use Rattle.edit_tree.specs.Assertions.{Step}
use Rattle.edit_document.specs.Items.{node_place, node_view}
use Rattle.edit_document.proofs.SameParts.{part_some}
use Rattle.edit_compare.proofs.UnorderedNodes.{unordered_all, unordered_here, unordered_down, unordered_more, unordered_lacks}
use Rattle.edit_compare.proofs.unordered.+same_unordered.Goals as goal

pub returns-then-not-same_but_order : goal.returns-then-not-same_but_order
returns-then-not-same_but_order t c = (
  λ e. absurd cc,
  λ h. sym c.if-not-same_but_order.true ∙
      c.same_but_order.ensures.1 (unordered_here c.args.document.now c.args.number
      c.args.other.now c.args.there c.lemma_exists.ensures c.lemma_exists-2.ensures h),
)

pub returns-in_default : goal.returns-in_default
returns-in_default t c =
    absurd (part_some (node_view c.args.document.now c.args.number) c.parts.index
    (omega (arith, c.parts-test.true, c.member_count-count.ensures)) (c.in_default.ensures {u = tt}))

pub returns-in_default-counterpart : goal.returns-in_default-counterpart
returns-in_default-counterpart t c = (
  λ e. absurd cc,
  λ h. absurd (unordered_lacks c.args.document.now c.args.number c.args.other.now c.args.there c.parts.index
      c.in-Some.part
      (c.in-Some.ensures {u = tt}) c.lemma_children.ensures.stands (c.in_default-counterpart.ensures {u = tt}) h),
)

pub returns-then-not-same_unordered : goal.returns-then-not-same_unordered
returns-then-not-same_unordered t c = (
  λ e. absurd cc,
  λ h. sym c.if-not-same_unordered.true ∙
      c.same_unordered.ensures.1 (unordered_down c.args.document.now c.args.number
      c.args.other.now c.args.there c.parts.index c.in-Some.part c.in-Some-counterpart.other_part
      (c.in-Some.ensures {u = tt}) (c.in-Some-counterpart.ensures {u = tt}) h),
)

pub parts-preserved : goal.parts-preserved
parts-preserved t c =
    unordered_more c.args.document.now c.args.number c.args.other.now c.args.there c.parts.index c.in-Some.part
    c.in-Some-counterpart.other_part (c.in-Some.ensures {u = tt}) (c.in-Some-counterpart.ensures {u = tt})
    (c.same_unordered.ensures.0 c.if-not-same_unordered.false) c.parts.invariant

pub returns : goal.returns
returns t c = (
  λ e. unordered_all c.args.document.now c.args.number c.args.other.now c.args.there c.lemma_exists.ensures
      c.lemma_exists-2.ensures
      c.lemma_tree.ensures.below c.lemma_tree-2.ensures.below c.lemma_children.ensures.parts c.lemma_children-2.ensures.parts
      (c.same_but_order.ensures.0 c.if-not-same_but_order.false)
      (λ j s lt ps. c.parts.invariant j s
      (omega (arith, lt, c.parts-test.false, c.member_count-count.ensures)) ps),
  λ h. refl,
)

pub parts-init : goal.parts-init
parts-init t c j step lt = absurd (omega arith)

pub same_unordered-requires : goal.same_unordered-requires
same_unordered-requires t c =
    let part = c.in-Some.ensures {u = tt} in
    let deep = ap {A = List Step} length part.3
    ∙ length-append (node_place c.args.document.now c.args.number) (part.0 ∷ []) in
    (omega arith, (part.2, ((c.in-Some-counterpart.ensures {u = tt} part.0 part.1).2, omega (arith, deep))))
