use Rattle.std.proofs.Common.{◌∙◌, ◌++◌, ap, sym}
use Rattle.std.specs.Prelude.{string_bytes}
use Rattle.edit_shown.proofs.AnnotationLemmas.{annotation_is}
use Rattle.edit_shown.proofs.annotations.push_row.Goals as goal

pub returns-clause-text : goal.returns-clause-text
returns-clause-text c =
    c.in_ok-push_str.ensures.bytes
    ∙ ap (λ t. string_bytes c.args.text.now ++ t)
    (c.as_str.ensures.value ∙ c.in_ok-line.ensures.text
    ∙ sym (annotation_is c.args.root.now c.args.inputs.now c.args.row.now
    (sym c.is_annotated.ensures ∙ c.if-not-is_annotated.false)))
