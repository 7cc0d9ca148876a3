use Rattle.std.proofs.Common.{◌∙◌}
use Rattle.std.proofs.lemmas.Result.{IfErr-weaker, on_ok_weaker}
use Rattle.edit_program.proofs.ArgsLemmas.{color_is, no_color}
use Rattle.edit_program.proofs.output_format.check_color_option.Goals as goal

pub returns-in-Some-clause-ok : goal.returns-in-Some-clause-ok
returns-in-Some-clause-ok c =
    let is = color_is c.args.matches.now c.get_str.result c.in-Some.color c.in-Some.is c.get_str.ensures in
    on_ok_weaker c.check_color.result (λ h. is ∙ h) c.check_color.ensures.ok

pub returns-in-Some-clause-error : goal.returns-in-Some-clause-error
returns-in-Some-clause-error c =
    let is = color_is c.args.matches.now c.get_str.result c.in-Some.color c.in-Some.is c.get_str.ensures in
    IfErr-weaker c.check_color.result _ _ (λ e h. is ∙ h) c.check_color.ensures.error

pub returns-in-None-clause-ok : goal.returns-in-None-clause-ok
returns-in-None-clause-ok c = no_color c.args.matches.now c.get_str.result c.in-None.is c.get_str.ensures
