use Rattle.std.proofs.Common.{◌∙◌}
use Rattle.edit_fetch.proofs.RowLemmas.{four_lines, line_same}
use Rattle.edit_fetch.specs.Transfers.{time_options}
use Rattle.edit_fetch.proofs.transfers.push_times.Goals as goal

pub returns : goal.returns
unfolding time_options
returns c = four_lines _ _ _ _ _ _ _ _ _
    (line_same _ _ _ _ _ c.in_ok-push_valued.ensures (c.as_bytes.ensures.value ∙ c.in_ok-timeout.ensures.ok))
    c.in_ok-push_valued-2.ensures
    (line_same _ _ _ _ _ c.in_ok-push_valued-3.ensures
    (c.as_bytes-2.ensures.value ∙ c.in_ok-timeout.ensures.ok))
    c.in_ok-push_valued-4.ensures
