use Rattle.std.proofs.lemmas.Result.{IfErr-weaker, IfOk-weaker}
use Rattle.edit_policy.proofs.FormLemmas.{fault_by_form, policy_by_form}
use Rattle.edit_policy.proofs.manifest.document_policy.Goals as goal

pub returns-clause-policy : goal.returns-clause-policy
returns-clause-policy c =
    let form = c.lemma_form.ensures.some in
    IfOk-weaker c.of_manifest.result _ _
    (λ p h. policy_by_form c.args.document.now form.0 p form.1 (c.lemma_form.ensures.shows form.0 form.1) h)
    c.of_manifest.ensures.policy

pub returns-clause-error : goal.returns-clause-error
returns-clause-error c =
    let form = c.lemma_form.ensures.some in
    IfErr-weaker c.of_manifest.result _ _
    (λ e h. fault_by_form c.args.document.now form.0 e form.1 (c.lemma_form.ensures.shows form.0 form.1) h)
    c.of_manifest.ensures.error
