use Rattle.std.proofs.Common.{◌∙◌, sym}
use Rattle.edit_choice.proofs.ParsingLemmas.{number_err, number_ok, number_zero}
use Rattle.edit_choice.proofs.parsing.row_number.Goals as goal

pub returns-in_default : goal.returns-in_default
returns-in_default c =
    number_err c.args.text.now c.parse.result c.in_default.field-0 c.parse.ensures.value.0
    (sym c.is_numeric.ensures ∙ c.if-not-is_numeric.false) c.in_default.is

pub returns-then-number-eq0 : goal.returns-then-number-eq0
returns-then-number-eq0 c =
    number_zero c.args.text.now c.parse.result c.in-Ok.number c.parse.ensures.value.0
    (sym c.is_numeric.ensures ∙ c.if-not-is_numeric.false) c.in-Ok.is c.if-number-eq0.true

pub returns-else-number-eq0 : goal.returns-else-number-eq0
returns-else-number-eq0 c =
    number_ok c.args.text.now c.parse.result c.in-Ok.number c.parse.ensures.value.0
    (sym c.is_numeric.ensures ∙ c.if-not-is_numeric.false) c.in-Ok.is c.if-number-eq0.false
