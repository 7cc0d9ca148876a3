use Rattle.std.proofs.Common.{sym}
use Rattle.edit_compare.proofs.PartNumbers.{member_part, element_part}
use Rattle.edit_compare.proofs.compare.part_at.Goals as goal

pub returns-in-Some : goal.returns-in-Some
returns-in-Some c =
    let w = c.lemma_children.ensures in
    member_part c.args.document.now c.args.number c.args.index c.in-Some.name.now c.member.result w.stands
    (w.names c.args.index c.in-Some.name.now (sym (c.in-Some.ensures {u = tt}))) c.member.ensures

pub returns-in-None : goal.returns-in-None
returns-in-None c =
    let w = c.lemma_children.ensures in
    element_part c.args.document.now c.args.number c.args.index c.element.result w.steps w.stands w.parts
    (sym (c.in-None.ensures {u = tt})) c.element.ensures
