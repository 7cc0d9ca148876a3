use Rattle.std.proofs.Common.{sym, subst}
use Rattle.edit_answers.specs.Meanings.{Means}
use Rattle.edit_answers.specs.Meanings.Means.{unanswered, failed, answered, unauthorized}
use Rattle.edit_answers.specs.declared.meaning.Failure.TheVariants.{Curl, Token, Unanswered}
use Rattle.edit_answers.specs.declared.meaning.Meaning.TheVariants.{Failed}
use Rattle.edit_answers.proofs.TextLemmas.{eq-yes, eq-no}
use Rattle.edit_answers.proofs.meaning.meaning_of.Goals as goal

pub returns-in_default : goal.returns-in_default
returns-in_default c = subst (λ o. Means o (Failed Unanswered)) (sym c.in_default.is) unanswered

pub returns-then-eq : goal.returns-then-eq
returns-then-eq c = subst (λ o. Means o c.meaning_by.result) (sym c.in-Some.is)
    (answered c.in-Some.answer c.meaning_by.result
    (eq-yes _ _ _ c.eq.ensures c.if-eq.true) c.meaning_by.ensures)

pub returns-then-eq-2 : goal.returns-then-eq-2
returns-then-eq-2 c = subst (λ o. Means o (Failed (Token c.in-Some.answer.message))) (sym c.in-Some.is)
    (unauthorized c.in-Some.answer (eq-yes _ _ _ c.eq-2.ensures c.if-eq-2.true))

pub returns : goal.returns
returns c = subst (λ o. Means o (Failed (Curl c.in-Some.answer.exit c.in-Some.answer.message)))
    (sym c.in-Some.is)
    (failed c.in-Some.answer (eq-no _ _ _ c.eq.ensures c.if-eq.false)
    (eq-no _ _ _ c.eq-2.ensures c.if-eq-2.false))
