use Rattle.std.proofs.Common.{◌≡◌, None, take}
use Rattle.edit_tree.specs.EditBytes.{first_result}
use Rattle.edit_rewrite.specs.PairOffsets.{within_entry}
use Rattle.edit_rewrite.proofs.replace_entry.first_within.Given as goal

-- none so far
abbrev pub invariant-entries : goal.invariant-entries
invariant-entries l = first_result within_entry (take l.entry-index l.found) ≡ None
