use Rattle.std.proofs.Common.{◌≡◌, true, false, sym, ◌∙◌}
use Rattle.edit_document.specs.Compared.{SameBeside}
use Rattle.edit_compare.proofs.Besides.{beside_goes}
use Rattle.edit_compare.proofs.BesideWalk.{walk_here, walk_ends, walk_next}
use Rattle.edit_compare.proofs.equal_around.find_equal_around.Goals as goal

pub returns-then-not-same_around : goal.returns-then-not-same_around
returns-then-not-same_around c same =
    let here = walk_here SameBeside beside_goes c.args.document.now c.args.other.now c.args.place.now
    c.steps.step-index c.step-item.result
    c.steps-test.true c.step-item.is c.steps.number c.steps.there c.steps.invariant.1.1 c.steps.invariant.2.1
    same in
    let clash : false ≡ true = sym c.if-not-same_around.true ∙ c.same_around.ensures.same.1 here in
    absurd cc

pub returns-in_default : goal.returns-in_default
returns-in_default c same =
    walk_ends SameBeside beside_goes c.args.document.now c.args.other.now c.args.place.now c.steps.step-index
    c.step-item.result
    c.steps-test.true c.step-item.is c.steps.number c.steps.there c.steps.invariant.1.1 c.steps.invariant.2.1
    c.lemma_tree-2.ensures.below (c.in_default.ensures {u = tt})

pub steps-preserved : goal.steps-preserved
steps-preserved c =
    walk_next SameBeside beside_goes c.args.document.now c.args.other.now c.args.place.now c.steps.step-index
    c.step-item.result
    c.steps-test.true c.step-item.is c.steps.number c.steps.there c.steps.invariant.1.1 c.steps.invariant.2.1
    c.steps.invariant.0 (c.same_around.ensures.same.0 c.if-not-same_around.false)
    c.in-Some-child_by_step.next c.in-Some.other_next (c.in-Some-child_by_step.ensures {u = tt})
    (c.in-Some.ensures {u = tt})
