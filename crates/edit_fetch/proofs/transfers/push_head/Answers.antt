use Rattle.std.proofs.Common.{◌∙◌}
use Rattle.edit_fetch.proofs.RowLemmas.{line_same, one_line}
use Rattle.edit_fetch.specs.Transfers.{head_options}
use Rattle.edit_fetch.proofs.transfers.push_head.Goals as goal

pub returns : goal.returns
unfolding head_options
returns c = one_line _ _ _
    (line_same _ _ _ _ _ c.in_ok-push_valued.ensures (c.as_bytes.ensures.value ∙ c.in_ok-head.ensures))
