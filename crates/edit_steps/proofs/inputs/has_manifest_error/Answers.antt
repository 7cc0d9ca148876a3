use Rattle.std.proofs.Common.{◌∙◌, inr, subst, sym}
use Rattle.std.proofs.lemmas.Bool.{eqb-false, eqb-true}
use Rattle.edit_manifest.specs.Loaded.{IsBadManifest}
use Rattle.edit_steps.proofs.inputs.has_manifest_error.Goals as goal

pub returns-clause-fails : goal.returns-clause-fails
returns-clause-fails c is = (
  c.in-Err.own,
  subst (λ bytes. IsBadManifest bytes c.in-Err.own) c.deref.ensures.value c.in-Err.ensures.error,
  sym c.number-in-Err-2.ensures ∙ eqb-true _ _ is ∙ c.number-in-Err-3.ensures,
)

pub returns-clause-passes : goal.returns-clause-passes
returns-clause-passes c differs = inr (
  c.in-Err.own,
  subst (λ bytes. IsBadManifest bytes c.in-Err.own) c.deref.ensures.value c.in-Err.ensures.error,
  (λ same. eqb-false _ _ differs (c.number-in-Err-2.ensures ∙ same ∙ sym c.number-in-Err-3.ensures)),
  (λ memory. c.if-number.false (c.number.ensures ∙ memory ∙ sym c.number-in-Err.ensures)),
)
