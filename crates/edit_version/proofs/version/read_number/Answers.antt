use Rattle.std.proofs.Common.{◌∙◌, sym}
use Rattle.edit_version.proofs.Steps.{number-err, number-ok}
use Rattle.edit_version.proofs.version.read_number.Goals as goal

pub returns-in-Ok : goal.returns-in-Ok
returns-in-Ok c =
    number-ok c.args.text.now c.parse.result c.in-Ok.number c.parse.ensures.value.0
    (sym c.is_numeric.ensures ∙ c.if-not-is_numeric.false) c.in-Ok.is

pub returns-in-Err : goal.returns-in-Err
returns-in-Err c =
    number-err c.args.text.now c.parse.result c.in-Err.field-0 c.parse.ensures.value.0
    (sym c.is_numeric.ensures ∙ c.if-not-is_numeric.false) c.in-Err.is
