use Rattle.std.proofs.Common.{◌≡◌, take, map}
use Rattle.edit_version.specs.IndexEntry.{entry_of}
use Rattle.edit_sources.proofs.index.clone_versions.Given as goal

abbrev pub invariant-loop-entry : goal.invariant-loop-entry
invariant-loop-entry l = map entry_of l.all.items ≡ map entry_of (take l.entry-index l.entries)
