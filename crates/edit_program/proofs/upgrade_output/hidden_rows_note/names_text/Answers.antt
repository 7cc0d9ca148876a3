use Rattle.std.proofs.Common.{◌∙◌}
use Rattle.std.proofs.lemmas.Result.{IfOk-weaker}
use Rattle.edit_program.proofs.NameLemmas.{few_names}
use Rattle.edit_program.proofs.upgrade_output.hidden_rows_note.names_text.Goals as goal

pub returns-then-number-le3 : goal.returns-then-number-le3
returns-then-number-le3 c =
    IfOk-weaker c.join.result _ _ (λ s h. h ∙ few_names c.args.names.now c.if-number-le3.true) c.join.ensures.ok
