use Rattle.std.proofs.Common.{None, Some, refl}
use Rattle.edit_choice.proofs.ParsingLemmas.{numbers_none, numbers_parted}
use Rattle.edit_choice.proofs.parsing.row_numbers.Goals as goal

pub returns-in_err-number-in-None : goal.returns-in_err-number-in-None
returns-in_err-number-in-None c =
    rw c.from_residual.ensures
    (numbers_none c.args.text.now None c.in-None.ensures.cases refl c.in_err-number-in-None.ensures)

pub returns-in-Some : goal.returns-in-Some
returns-in-Some c =
    numbers_parted c.args.text.now (Some (c.in-Some.first, c.in-Some.last)) (c.in-Some.first, c.in-Some.last)
    c.range_of.result c.in-Some.ensures.cases refl c.range_of.ensures
