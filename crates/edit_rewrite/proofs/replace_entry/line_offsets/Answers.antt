use Rattle.std.proofs.Common.{sym, ◌∙◌}
use Rattle.edit_document.specs.Items.{place_view}
use Rattle.edit_rewrite.proofs.LineEntries.{line_some, line_none}
use Rattle.edit_rewrite.proofs.replace_entry.line_offsets.Goals as goal

pub returns-in-Some-clause-outcome : goal.returns-in-Some-clause-outcome
returns-in-Some-clause-outcome c form m one =
    let place = place_view c.args.place.now in
    let all = c.as_slice.ensures.value ∙ (c.in_ok-all.ensures {u = tt}).found form m in
    let row = line_some form place c.as_slice.result.now c.in-Some.entry all
    (sym c.first_within.ensures ∙ c.in-Some.is) in
    (c.in_ok-pair_offsets-in-Some.ensures {u = tt}).around form place row.0 m one row.1 row.2 row.3

pub returns-clause-outcome : goal.returns-clause-outcome
returns-clause-outcome c form m one =
    let all = c.as_slice.ensures.value ∙ (c.in_ok-all.ensures {u = tt}).found form m in
    line_none form (place_view c.args.place.now) c.as_slice.result.now all
    (sym c.first_within.ensures ∙ c.in-None.is)
