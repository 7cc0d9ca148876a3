use Rattle.std.proofs.Common.{◌∙◌}
use Rattle.edit_fetch.proofs.RowLemmas.{line_same, two_lines}
use Rattle.edit_fetch.specs.Transfers.{protocol_options}
use Rattle.edit_fetch.proofs.transfers.push_protocols.Goals as goal

pub returns : goal.returns
unfolding protocol_options
returns c =
    let same = c.as_bytes-protocols.ensures.value ∙ c.protocols.ensures in
    two_lines _ _ _ _ _ (line_same _ _ _ _ _ c.in_ok-push_valued.ensures same)
    (line_same _ _ _ _ _ c.in_ok-push_valued-2.ensures same)
