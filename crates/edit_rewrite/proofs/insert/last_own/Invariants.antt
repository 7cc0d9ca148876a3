use Rattle.std.proofs.Common.{◌≡◌, take}
use Rattle.edit_tree.specs.EditBytes.{last_result}
use Rattle.edit_rewrite.specs.StatementOffsets.{own_entry}
use Rattle.edit_rewrite.proofs.insert.last_own.Given as goal

-- the last of those so far
abbrev pub invariant-entries : goal.invariant-entries
invariant-entries l = l.last ≡ last_result own_entry (take l.entry-index l.found)
