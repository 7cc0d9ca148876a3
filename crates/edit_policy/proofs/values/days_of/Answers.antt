use Rattle.std.proofs.Common.{◌∙◌, sym}
use Rattle.edit_policy.proofs.DayLemmas.{days_err, days_ok}
use Rattle.edit_policy.proofs.values.days_of.Goals as goal

pub returns-in-Ok : goal.returns-in-Ok
returns-in-Ok c =
    days_ok c.args.text.now c.parse.result c.in-Ok.days c.parse.ensures.value.0
    (sym c.is_numeric.ensures ∙ c.if-not-is_numeric.false) c.in-Ok.is

pub returns-in-Err : goal.returns-in-Err
returns-in-Err c =
    days_err c.args.text.now c.parse.result c.in-Err.field-0 c.parse.ensures.value.0
    (sym c.is_numeric.ensures ∙ c.if-not-is_numeric.false) c.in-Err.is
