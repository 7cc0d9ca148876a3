use Rattle.std.proofs.Common.{Option, ap, sym, subst}
use Rattle.std.specs.Prelude.{◌⊎◌, IfErr, IfOk, option_copied}
use Rattle.edit_base.specs.Errors.{IsMemory}
use Rattle.edit_choice.specs.declared.items.RowChoice.{RowChoice}
use Rattle.edit_program.specs.Choosing.{HasMissingRow, IsChosenOrSame}
use Rattle.edit_program.proofs.upgrade_run.revising.choose_plan.Goals as goal

pub returns-in-Some-clause-chosen : goal.returns-in-Some-clause-chosen
returns-in-Some-clause-chosen c =
    subst (λ (o : Option RowChoice). IfOk c.chosen_plan.result
    (IsChosenOrSame o c.args.target.now.inputs.items c.args.plan))
    (sym (ap option_copied c.in-Some.is)) c.chosen_plan.ensures.chosen

pub returns-in-Some-clause-error : goal.returns-in-Some-clause-error
returns-in-Some-clause-error c =
    subst (λ (o : Option RowChoice). IfErr c.chosen_plan.result
    (λ e. IsMemory e ⊎ HasMissingRow o c.args.plan.rows.items e))
    (sym (ap option_copied c.in-Some.is)) c.chosen_plan.ensures.error
