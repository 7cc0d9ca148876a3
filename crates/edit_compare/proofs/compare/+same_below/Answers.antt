use Rattle.std.proofs.Common.{List, [], ◌∷◌, length, length-append, sym, ap, ◌∙◌, refl, arith}
use Rattle.edit_tree.specs.Tree.{View}
use Rattle.edit_document.specs.Compared.{nth_part}
use Rattle.edit_tree.specs.Assertions.{Step}
use Rattle.edit_document.specs.Items.{node_place, node_view}
use Rattle.edit_document.proofs.SameParts.{same_here, same_all, part_same, part_some, parts_more, parts_all}
use Rattle.edit_compare.proofs.compare.+same_below.Goals as goal

pub returns-then-not-same_view : goal.returns-then-not-same_view
returns-then-not-same_view t c = (
  λ e. absurd cc,
  λ h. sym c.if-not-same_view.true ∙
      c.same_view.ensures.1
      (same_here c.args.document.now c.args.number c.args.other.now c.args.there c.lemma_exists.ensures
      c.lemma_exists-2.ensures
      h),
)

pub returns-in_default : goal.returns-in_default
returns-in_default t c =
    absurd (part_some (node_view c.args.document.now c.args.number) c.parts.index
    (omega (arith, c.parts-test.true, c.member_count-count.ensures)) (c.in_default.ensures {u = tt}))

pub parts-preserved : goal.parts-preserved
parts-preserved t c =
    parts_more c.args.document.now c.args.number c.args.other.now c.args.there c.parts.index c.in-Some.part
    c.in-Some-part_at.other_part (c.same_view.ensures.0 c.if-not-same_view.false) c.parts.invariant
    (c.in-Some.ensures {u = tt}) (c.in-Some-part_at.ensures {u = tt})
    (c.same_below.ensures.0 c.if-not-same_below.false)

pub returns : goal.returns
returns t c =
    let same = c.same_view.ensures.0 c.if-not-same_view.false in (
      λ e. same_all c.args.document.now c.args.number c.args.other.now c.args.there c.lemma_tree.ensures.below
          c.lemma_tree-2.ensures.below c.lemma_children.ensures.parts c.lemma_children-2.ensures.parts c.lemma_exists.ensures
          c.lemma_exists-2.ensures same
          (parts_all c.args.document.now c.args.number c.args.other.now c.args.there c.parts.index
          c.member_count-count.result c.parts.invariant c.parts-test.false c.member_count-count.ensures),
      λ h. refl,
    )

pub returns-then-not-same_below : goal.returns-then-not-same_below
returns-then-not-same_below t c = (
  λ e. absurd cc,
  λ h. sym c.if-not-same_below.true ∙
      c.same_below.ensures.1
      (part_same c.args.document.now c.args.number c.args.other.now c.args.there c.parts.index c.in-Some.part
      c.in-Some-part_at.other_part (c.same_view.ensures.0 c.if-not-same_view.false) (c.in-Some.ensures {u = tt})
      (c.in-Some-part_at.ensures {u = tt}) h),
)

pub returns-in_default-part_at : goal.returns-in_default-part_at
returns-in_default-part_at t c =
    absurd (part_some (node_view c.args.document.now c.args.number) c.parts.index
    (omega (arith, c.parts-test.true, c.member_count-count.ensures))
    (ap (λ (v : View). nth_part v c.parts.index) (c.same_view.ensures.0 c.if-not-same_view.false)
    ∙ c.in_default-part_at.ensures {u = tt}))

pub parts-init : goal.parts-init
parts-init t c j step lt = absurd (omega arith)

pub same_below-requires : goal.same_below-requires
same_below-requires t c =
    let part = c.in-Some.ensures {u = tt} in
    let deep = ap {A = List Step} length part.3
    ∙ length-append (node_place c.args.document.now c.args.number) (part.0 ∷ []) in
    (omega arith, (part.2, ((c.in-Some-part_at.ensures {u = tt}).2, omega (arith, deep))))
