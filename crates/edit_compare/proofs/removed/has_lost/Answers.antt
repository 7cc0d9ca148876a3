use Rattle.std.proofs.Common.{arith}
use Rattle.edit_compare.proofs.HasLost.{first_stands, first_there, nowhere}
use Rattle.edit_compare.proofs.removed.has_lost.Goals as goal

pub front-requires : goal.front-requires
front-requires c =
    let f = c.lemma_form.ensures.some in
    let less = (c.steps_to_remaining-remaining.ensures f.0 f.1).less in
    omega (arith, less)

pub loses_part-requires-clause-part : goal.loses_part-requires-clause-part
loses_part-requires-clause-part c =
    let f = c.lemma_form.ensures.some in
    let inn = c.steps_to_remaining-remaining.ensures f.0 f.1 in
    first_stands c.args.document.now c.args.other.now f.0 (c.lemma_form.ensures.shows f.0 f.1)
    c.lemma_tree.ensures.below c.lemma_tree-2.ensures.below c.args.place.now c.steps_to_remaining-remaining.result
    c.index-place-remaining.result c.index-place-remaining.is c.requires.stands inn c.front.result.now c.front.ensures
    c.in-Some.number (c.in-Some.ensures {u = tt}).1.1

pub returns-in_default : goal.returns-in_default
returns-in_default c form manifest =
    let inn = c.steps_to_remaining-remaining.ensures form manifest in
    nowhere c.args.document.now c.args.other.now form
    (c.lemma_form.ensures.shows form manifest)
    c.lemma_tree.ensures.below c.lemma_tree-2.ensures.below c.args.place.now c.steps_to_remaining-remaining.result
    c.requires.stands inn
    c.front.result.now c.front.ensures (c.in_default.ensures {u = tt})

pub returns : goal.returns
returns c form manifest =
    let inn = c.steps_to_remaining-remaining.ensures form manifest in
    let f = c.in-Some.ensures {u = tt} in
    first_there c.args.document.now c.args.other.now form
    (c.lemma_form.ensures.shows form manifest)
    c.lemma_tree.ensures.below c.lemma_tree-2.ensures.below c.args.place.now c.steps_to_remaining-remaining.result
    c.index-place-remaining.result c.index-place-remaining.is c.requires.stands inn c.front.result.now c.front.ensures
    c.in-Some.number c.in-Some.there f.0 f.1.1 f.2.1 c.loses_part.result
    c.loses_part.ensures
