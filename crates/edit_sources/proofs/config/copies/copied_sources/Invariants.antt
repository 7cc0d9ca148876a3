use Rattle.std.proofs.Common.{◌≡◌, take, map}
use Rattle.edit_sources.specs.Configured.{source_entry}
use Rattle.edit_sources.proofs.config.copies.copied_sources.Given as goal

abbrev pub invariant-loop-entry : goal.invariant-loop-entry
invariant-loop-entry l = map source_entry l.all.items ≡ map source_entry (take l.entry-index l.sources)
