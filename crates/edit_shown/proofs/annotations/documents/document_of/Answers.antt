use Rattle.std.proofs.Common.{◌∙◌, sym}
use Rattle.edit_shown.proofs.RequirementLineLemmas.{no_form_of}
use Rattle.edit_shown.proofs.annotations.documents.document_of.Goals as goal

pub returns-else-number : goal.returns-else-number
returns-else-number c =
    no_form_of c.args.bytes.now c.in-Err.error c.in-Err.ensures.error
    (λ memory. c.if-number.false (c.number.ensures ∙ memory ∙ sym c.number-in-Err.ensures))
