use Rattle.std.proofs.Common.{◌≡◌, Some, ◌∙◌, sym}
use Rattle.edit_fetch.proofs.RowLemmas.{line_same, one_line}
use Rattle.edit_fetch.specs.Transfers.{token_options, sent_token}
use Rattle.edit_fetch.proofs.transfers.push_token.Goals as goal

pub returns : goal.returns
unfolding token_options
returns c =
    let sent : sent_token c.args.request.now ≡ Some c.in-Some.token.now = sym c.in-Some.ensures.token in
    rw sent (one_line _ _ _ (line_same _ _ _ _ _ c.in_ok-push_valued.ensures
    (c.as_bytes.ensures.value ∙ c.in_ok-header.ensures.ok)))
