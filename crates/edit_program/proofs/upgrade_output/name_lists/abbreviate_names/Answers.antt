use Rattle.std.proofs.Common.{◌∙◌}
use Rattle.std.proofs.lemmas.Result.{IfOk-weaker}
use Rattle.edit_program.proofs.NameListLemmas.{few_listed}
use Rattle.edit_program.proofs.upgrade_output.name_lists.abbreviate_names.Goals as goal

pub returns-then-names-le-MOST_NAMES : goal.returns-then-names-le-MOST_NAMES
returns-then-names-le-MOST_NAMES c =
    IfOk-weaker c.join_names.result _ _ (λ s h. h ∙ few_listed c.args.names.now c.if-names-le-MOST_NAMES.true) c.join_names.ensures
