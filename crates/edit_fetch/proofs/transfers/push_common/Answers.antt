use Rattle.edit_fetch.proofs.RowLemmas.{four_lines}
use Rattle.edit_fetch.specs.Transfers.{common_options}
use Rattle.edit_fetch.proofs.transfers.push_common.Goals as goal

pub returns : goal.returns
unfolding common_options
returns c = four_lines _ _ _ _ _ _ _ _ _ c.in_ok-push_bare.ensures c.in_ok-push_bare-2.ensures
    c.in_ok-push_bare-3.ensures c.in_ok-push_valued.ensures
