use Rattle.std.proofs.Common.{sym, ◌∙◌}
use Rattle.edit_rewrite.proofs.EntryChoices.{dotted_taken, dotted_left}
use Rattle.edit_rewrite.proofs.insert.last_dotted.Goals as goal
use Rattle.edit_rewrite.proofs.insert.last_dotted.Goals.{then-is_dotted, else-is_dotted}

pub entries-preserved : goal.entries-preserved
entries-preserved c =
    let xs = c.args.found.now in
    let i = c.entries.entry-index in
    elim c.if-is_dotted.branch [
      | then-is_dotted w ↦
          w.last-is
          ∙ sym (dotted_taken xs i c.entries-test.true (sym c.is_dotted.ensures ∙ w.if-is_dotted.true))
      | else-is_dotted w ↦
          w.last-is ∙ c.entries.invariant
          ∙ sym (dotted_left xs i c.entries-test.true (sym c.is_dotted.ensures ∙ w.if-is_dotted.false))
    ]
