use Rattle.std.proofs.Common.{sym, ◌∙◌}
use Rattle.edit_rewrite.proofs.EntryChoices.{own_taken, own_left}
use Rattle.edit_rewrite.proofs.insert.last_own.Goals as goal
use Rattle.edit_rewrite.proofs.insert.last_own.Goals.{then-entry, else-entry}

pub entries-preserved : goal.entries-preserved
entries-preserved c =
    let xs = c.args.found.now in
    let i = c.entries.entry-index in
    elim c.if-entry.branch [
      | then-entry w ↦ w.last-is ∙ sym (own_taken xs i c.entries-test.true w.if-entry.true)
      | else-entry w ↦
          w.last-is ∙ c.entries.invariant ∙ sym (own_left xs i c.entries-test.true w.if-entry.false)
    ]
