use Rattle.std.proofs.Common.{ap, ◌∙◌}
use Rattle.edit_syntax.specs.Grammar.{gap}
use Rattle.edit_syntax.specs.Reading.{value_at}
use Rattle.edit_syntax.proofs.StepLaws.{item_again, item_read, refused_memory}
use Rattle.edit_syntax.proofs.read.steps.past_value.Goals as goal

pub returns-in-Ok : goal.returns-in-Ok
returns-in-Ok c v g rest h e =
    let p = c.in-Ok.ensures in
    item_read c.args.s.now c.in-Ok.rest.now p.0 v g rest h e p.1

pub returns : goal.returns
returns c v g rest h e =
    refused_memory (value_at 80 c.args.s.now) (v, gap g rest) c.in-Err.error c.to_error.result
    (ap (value_at 80) e ∙ item_again v g rest h) c.in-Err.ensures c.to_error.ensures
