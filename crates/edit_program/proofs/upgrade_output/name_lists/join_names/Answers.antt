use Rattle.std.proofs.Common.{◌∙◌}
use Rattle.std.specs.Prelude.{codes}
use Rattle.std.proofs.lemmas.Result.{IfOk-weaker}
use Rattle.edit_program.proofs.NameLemmas.{joined_names}
use Rattle.edit_program.proofs.upgrade_output.name_lists.join_names.Goals as goal

pub returns : goal.returns
returns c =
    IfOk-weaker c.join.result _ _ (λ s h. h ∙ joined_names (codes ", ") c.args.names.now) c.join.ensures.ok
