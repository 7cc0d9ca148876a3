use Rattle.std.proofs.Common.{[], ◌∙◌, ap, refl, sym}
use Rattle.edit_program.specs.ParsedOptions.{status_of_value}
use Rattle.edit_program.proofs.ArgsLemmas.{value_is}
use Rattle.edit_program.proofs.upgrade_parser.status_of.Goals as goal

pub returns-in-Some-clause-ok : goal.returns-in-Some-clause-ok
returns-in-Some-clause-ok c =
    sym (ap status_of_value (value_is c.args.matches.now c.args.option.now [] c.get_str.result
    c.unwrap_or-value.result _ c.get_str.ensures c.unwrap_or-value.ensures refl))
    ∙ sym c.in-Some.ensures

pub returns-in-None-clause-error : goal.returns-in-None-clause-error
returns-in-None-clause-error c =
    sym (ap status_of_value (value_is c.args.matches.now c.args.option.now [] c.get_str.result
    c.unwrap_or-value.result _ c.get_str.ensures c.unwrap_or-value.ensures refl))
    ∙ sym c.in-None.ensures
