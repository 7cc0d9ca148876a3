use Rattle.std.proofs.Common.{◌≡◌, true, false, sym, ◌∙◌}
use Rattle.edit_document.specs.ItemRemoval.{SameButOrderBeside}
use Rattle.edit_compare.proofs.LostParts.{unordered_goes}
use Rattle.edit_compare.proofs.BesideWalk.{walk_here, walk_ends, walk_next}
use Rattle.edit_compare.proofs.equal_around_unordered.equal_around_unordered.Goals as goal

pub returns-then-not-unordered_around : goal.returns-then-not-unordered_around
returns-then-not-unordered_around c same =
    let here = walk_here SameButOrderBeside unordered_goes c.args.document.now c.args.other.now c.args.place.now
    c.steps.step-index c.step-item.result
    c.steps-test.true c.step-item.is c.steps.number c.steps.there c.steps.invariant.1.1 c.steps.invariant.2.1
    same in
    let clash : false ≡ true = sym c.if-not-unordered_around.true ∙ c.unordered_around.ensures.same.1 here in
    absurd cc

pub returns-in_default : goal.returns-in_default
returns-in_default c same =
    walk_ends SameButOrderBeside unordered_goes c.args.document.now c.args.other.now c.args.place.now
    c.steps.step-index c.step-item.result
    c.steps-test.true c.step-item.is c.steps.number c.steps.there c.steps.invariant.1.1 c.steps.invariant.2.1
    c.lemma_tree-2.ensures.below (c.in_default.ensures {u = tt})

pub steps-preserved : goal.steps-preserved
steps-preserved c =
    walk_next SameButOrderBeside unordered_goes c.args.document.now c.args.other.now c.args.place.now
    c.steps.step-index c.step-item.result
    c.steps-test.true c.step-item.is c.steps.number c.steps.there c.steps.invariant.1.1 c.steps.invariant.2.1
    c.steps.invariant.0 (c.unordered_around.ensures.same.0 c.if-not-unordered_around.false)
    c.in-Some-child_by_step.next c.in-Some.other_next (c.in-Some-child_by_step.ensures {u = tt})
    (c.in-Some.ensures {u = tt})
