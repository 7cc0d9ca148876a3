use Rattle.edit_fetch.proofs.RowLemmas.{config_text_more, then_more}
use Rattle.edit_fetch.specs.Transfers.{transfer_options}
use Rattle.edit_fetch.proofs.transfers.transfers_text.Goals as goal

pub loop-i-preserved : goal.loop-i-preserved
loop-i-preserved c =
    config_text_more (transfer_options c.args.settings.now c.args.room.now) c.args.requests.now c.loop-i.i
    c.index-requests-i.result _ _ c.loop-i-test.true c.index-requests-i.is c.loop-i.invariant
    (then_more _ _ _ _ _ c.in_ok-push_separator.ensures c.in_ok-push_transfer.ensures)
