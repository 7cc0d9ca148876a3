use Rattle.std.proofs.Common.{ap, sym, ◌∙◌}
use Rattle.edit_answers.specs.OutcomeRules.{is_sparse}
use Rattle.edit_answers.specs.OutcomeRules.MeansFor.{not_fetchable, offline, online}
use Rattle.edit_answers.proofs.lookups.meaning_for.Goals as goal

pub returns-then-not-is_sparse : goal.returns-then-not-is_sparse
returns-then-not-is_sparse c =
    not_fetchable (sym (ap is_sparse c.as_bytes.ensures.value)
    ∙ (sym c.is_sparse.ensures ∙ c.if-not-is_sparse.true))

pub returns-then-offline : goal.returns-then-offline
returns-then-offline c =
    offline (sym (ap is_sparse c.as_bytes.ensures.value)
    ∙ (sym c.is_sparse.ensures ∙ c.if-not-is_sparse.false))
    c.if-offline.true

pub returns : goal.returns
returns c =
    online c.meaning_of.result
    (sym (ap is_sparse c.as_bytes.ensures.value) ∙ (sym c.is_sparse.ensures ∙ c.if-not-is_sparse.false))
    c.if-offline.false c.meaning_of.ensures
