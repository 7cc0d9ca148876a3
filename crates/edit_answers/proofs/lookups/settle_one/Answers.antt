use Rattle.std.proofs.Common.{ap, sym, ◌∙◌}
use Rattle.edit_lookups.specs.Lookups.{lookup_text}
use Rattle.edit_answers.specs.OutcomeRules.{is_local}
use Rattle.edit_answers.specs.OutcomeRules.HasOutcome.{answered, local}
use Rattle.edit_answers.specs.Outcomes.{Puts}
use Rattle.edit_answers.specs.declared.meaning.Outcome.TheVariants.{Fetched}
use Rattle.edit_answers.proofs.ChangeLemmas.{on-ok, reads-changes}
use Rattle.edit_answers.proofs.PutLemmas.{stores-local}
use Rattle.edit_answers.proofs.lookups.settle_one.Goals as goal

pub returns-then-is_local-clause-changes : goal.returns-then-is_local-clause-changes
returns-then-is_local-clause-changes g c =
    let p = c.args.places.now in
    let l = lookup_text c.args.lookup.now in
    reads-changes (Puts p l) (Puts p l Fetched) _ _ _ c.settle_local.ensures.reads c.settle_local.ensures.error

pub returns-then-is_local-clause-follows : goal.returns-then-is_local-clause-follows
returns-then-is_local-clause-follows g c =
    on-ok _ _ c.settle_local.result
    (λ o h t. local o
    (sym (ap is_local c.as_bytes.ensures.value) ∙ (sym c.is_local.ensures ∙ c.if-is_local.true)) (h t))
    c.settle_local.ensures.outcome

pub returns-then-is_local-clause-stores : goal.returns-then-is_local-clause-stores
returns-then-is_local-clause-stores g c =
    let old = (g.S.Store.view c.args.files.now).file_at in
    let new = (g.S.Store.view c.settle_local.new.files).file_at in
    on-ok _ _ c.settle_local.result
    (λ o h t. stores-local c.args.places.now (lookup_text c.args.lookup.now) c.args.number old new old o (h t)
    c.settle_local.ensures.reads.files)
    c.settle_local.ensures.outcome

pub returns-clause-follows : goal.returns-clause-follows
returns-clause-follows g c =
    on-ok _ _ c.settle.result
    (λ o h t. answered c.meaning_for-meaning.result o
    (sym (ap is_local c.as_bytes.ensures.value) ∙ (sym c.is_local.ensures ∙ c.if-is_local.false))
    c.meaning_for-meaning.ensures (h t))
    c.settle.ensures.outcome
