use Rattle.std.specs.Prelude.{string_bytes}
use Rattle.edit_shown.specs.Messages.{row_message}
use Rattle.edit_shown.proofs.MessageLemmas.{texts_more}
use Rattle.edit_shown.proofs.messages.push_rows.Goals as goal

pub loop-row-preserved : goal.loop-row-preserved
loop-row-preserved c =
    texts_more (row_message c.args.inputs.now) c.args.rows.now c.loop-row.row-index c.row-item.result
    (string_bytes c.args.text.now) (string_bytes c.loop-row.text) (string_bytes c.push_row.new.text)
    c.loop-row-test.true c.row-item.is c.loop-row.invariant c.in_ok-push_row.ensures.text
