use Rattle.std.proofs.Common.{sym, arith}
use Rattle.edit_document.proofs.NodeAnswers.{first_none, only_found}
use Rattle.edit_document.proofs.document.Document.only_member.Goals as goal

pub returns-in-Some : goal.returns-in-Some
returns-in-Some c =
    only_found c.args.self.now c.args.number c.in-Some.name.now c.member.result
    (omega (arith, c.name_count.ensures, c.if-name_count-ne1.false)) (sym (c.in-Some.ensures {u = tt}))
    c.lemma_children.ensures.stands c.lemma_children.ensures.names c.member.ensures

pub returns-in-None : goal.returns-in-None
returns-in-None c = first_none _ (sym (c.in-None.ensures {u = tt}))
