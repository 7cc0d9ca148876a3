use Rattle.std.proofs.Common.{ap, ◌∙◌}
use Rattle.edit_fetch.specs.CurlConfig.{options_in}
use Rattle.edit_fetch.proofs.NameLemmas.{requests_read}
use Rattle.edit_fetch.proofs.transfers.requests_text.Goals as goal

pub returns-clause-read : goal.returns-clause-read
returns-clause-read c = ap options_in c.in_ok-text.ensures
    ∙ requests_read c.args.settings.now c.args.room.now c.args.requests.now
