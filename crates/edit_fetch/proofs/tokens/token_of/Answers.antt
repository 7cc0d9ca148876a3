use Rattle.std.proofs.Common.{sym}
use Rattle.edit_fetch.proofs.TokenLemmas.{found_token}
use Rattle.edit_fetch.proofs.tokens.token_of.Goals as goal

pub returns-clause-own : goal.returns-clause-own
returns-clause-own c =
    found_token c.args.tokens.now c.args.address.now c.in_ok-token.token.now (sym c.in_ok-token.ensures)
