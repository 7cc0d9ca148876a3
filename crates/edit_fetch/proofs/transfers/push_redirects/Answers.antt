use Rattle.edit_fetch.proofs.RowLemmas.{two_lines}
use Rattle.edit_fetch.specs.Transfers.{redirect_options}
use Rattle.edit_fetch.proofs.transfers.push_redirects.Goals as goal

pub returns : goal.returns
unfolding redirect_options
returns c = two_lines _ _ _ _ _ c.in_ok-push_bare.ensures c.in_ok-push_valued.ensures
