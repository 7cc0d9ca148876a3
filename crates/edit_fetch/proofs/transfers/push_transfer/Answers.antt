use Rattle.std.proofs.Common.{◌++◌, ◌∙◌, ap}
use Rattle.std.specs.List.{flat_map}
use Rattle.edit_fetch.proofs.RowLemmas.{then_more}
use Rattle.edit_fetch.specs.CurlConfig.{option_line}
use Rattle.edit_fetch.specs.Transfers.{protocol_options, transfer_options}
use Rattle.edit_fetch.proofs.transfers.push_transfer.Goals as goal

pub returns : goal.returns
unfolding transfer_options
returns c =
    let protocols = c.in_ok-push_protocols.ensures
    ∙ ap (λ url. c.push_token.new.text.items ++ flat_map option_line (protocol_options url))
    c.deref.ensures.value in
    then_more _ _ _ _ _ c.in_ok-push_files.ensures
    (then_more _ _ _ _ _ c.in_ok-push_head.ensures
    (then_more _ _ _ _ _ c.in_ok-push_etag.ensures
    (then_more _ _ _ _ _ c.in_ok-push_redirects.ensures
    (then_more _ _ _ _ _ c.in_ok-push_token.ensures
    (then_more _ _ _ _ _ protocols
    (then_more _ _ _ _ _ c.in_ok-push_common.ensures
    (then_more _ _ _ _ _ c.in_ok-push_times.ensures c.in_ok-push_named.ensures)))))))
