use Rattle.std.proofs.Common.{map}
use Rattle.edit_version.specs.IndexEntry.{entry_of}
use Rattle.edit_sources.specs.IndexLines.{HaveEntriesInOrder, length_left}
use Rattle.edit_sources.proofs.LineLemmas.{HasRead}
use Rattle.edit_sources.proofs.index_lines.read_lines.Given as goal

-- the lines so far have the entries so far
abbrev pub invariant-lines : goal.invariant-lines
invariant-lines l = HasRead HaveEntriesInOrder l.bytes l.number l.rest (map entry_of l.entries.items)

abbrev pub decreases-lines : goal.decreases-lines
decreases-lines l = length_left l.rest
