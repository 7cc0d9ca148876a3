use Rattle.std.proofs.Common.{sym, ◌∙◌}
use Rattle.edit_rewrite.proofs.EntryChoices.{through_taken, through_left}
use Rattle.edit_rewrite.proofs.insert.first_through.Goals as goal

pub returns-then-is_passing_header : goal.returns-then-is_passing_header
returns-then-is_passing_header c =
    sym (through_taken c.args.found.now c.entries.entry-index c.entries-test.true c.entries.invariant
    (sym c.is_passing_header.ensures ∙ c.if-is_passing_header.true))

pub entries-preserved : goal.entries-preserved
entries-preserved c =
    through_left c.args.found.now c.entries.entry-index c.entries-test.true c.entries.invariant
    (sym c.is_passing_header.ensures ∙ c.if-is_passing_header.false)
