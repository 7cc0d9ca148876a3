use Rattle.std.proofs.Common.{arith}
use Rattle.std.proofs.lemmas.List.{length-map}
use Rattle.edit_document.specs.Items.{step_view, place_view}
use Rattle.edit_rewrite.proofs.InnerPairs.{inner_none}
use Rattle.edit_rewrite.proofs.replace_entry.inline_offsets.Goals as goal

pub returns-clause-outcome : goal.returns-clause-outcome
returns-clause-outcome c form m =
    let size = length-map c.args.place.now step_view in
    inner_none form (place_view c.args.place.now) c.ends.end (c.ends.invariant form m)
    (omega (arith, c.ends-test.false, size))
