use Rattle.std.proofs.Common.{sym, ◌∙◌}
use Rattle.edit_rewrite.proofs.LineEntries.{within_taken, within_left}
use Rattle.edit_rewrite.proofs.replace_entry.first_within.Goals as goal

pub returns-then-is_pair_within : goal.returns-then-is_pair_within
returns-then-is_pair_within c =
    sym (within_taken c.args.found.now c.entries.entry-index c.entries-test.true c.entries.invariant
    (sym c.is_pair_within.ensures ∙ c.if-is_pair_within.true))

pub entries-preserved : goal.entries-preserved
entries-preserved c =
    within_left c.args.found.now c.entries.entry-index c.entries-test.true c.entries.invariant
    (sym c.is_pair_within.ensures ∙ c.if-is_pair_within.false)
