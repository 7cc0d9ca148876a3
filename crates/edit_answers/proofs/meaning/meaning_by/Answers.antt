use Rattle.std.proofs.Common.{subst, sym}
use Rattle.edit_answers.specs.Meanings.{MeansBy}
use Rattle.edit_answers.specs.Meanings.MeansBy.{new, not_modified, absent, other}
use Rattle.edit_answers.proofs.TextLemmas.{eq-yes, eq-no}
use Rattle.edit_answers.proofs.meaning.meaning_by.Goals as goal

pub returns-then-eq : goal.returns-then-eq
returns-then-eq c =
    subst (MeansBy c.args.code c.args.redirects.now) (sym c.body_meaning.ensures)
    (new (eq-yes _ _ _ c.eq.ensures c.if-eq.true))

pub returns-then-eq-2 : goal.returns-then-eq-2
returns-then-eq-2 c = not_modified (eq-yes _ _ _ c.eq-2.ensures c.if-eq-2.true)

pub returns-then-is_absence : goal.returns-then-is_absence
returns-then-is_absence c = absent (c.is_absence.ensures.0 c.if-is_absence.true)

pub returns : goal.returns
returns c =
    other (eq-no _ _ _ c.eq.ensures c.if-eq.false) (eq-no _ _ _ c.eq-2.ensures c.if-eq-2.false)
    (λ h. let is = c.is_absence.ensures.1 h in cc)
