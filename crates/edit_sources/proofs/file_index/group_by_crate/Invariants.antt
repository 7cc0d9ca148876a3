use Rattle.edit_sources.proofs.RunLemmas.{HasGrouped}
use Rattle.edit_sources.proofs.file_index.group_by_crate.Given as goal

-- the entries so far are in the groups, except the last ones, which are of one name
abbrev pub invariant-loop-entry : goal.invariant-loop-entry
invariant-loop-entry l = HasGrouped l.groups l.run.items l.yielded
