use Rattle.std.proofs.Common.{◌≡◌, Some, ◌∙◌, rules}
use Rattle.edit_fetch.proofs.RowLemmas.{line_same, one_line}
use Rattle.edit_fetch.specs.Transfers.{etag_options, sent_etag}
use Rattle.edit_fetch.proofs.transfers.push_etag.Goals as goal

pub returns : goal.returns
unfolding etag_options
returns c =
    let sent : sent_etag c.args.request.now ≡ Some c.in-Some.etag.now = search rules in
    rw sent (one_line _ _ _ (line_same _ _ _ _ _ c.in_ok-push_valued.ensures
    (c.as_bytes.ensures.value ∙ c.in_ok-header.ensures.ok)))
