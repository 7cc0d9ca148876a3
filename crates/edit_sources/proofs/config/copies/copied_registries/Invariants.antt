use Rattle.std.proofs.Common.{◌≡◌, take, map}
use Rattle.edit_sources.specs.Configured.{registry_entry}
use Rattle.edit_sources.proofs.config.copies.copied_registries.Given as goal

abbrev pub invariant-loop-entry : goal.invariant-loop-entry
invariant-loop-entry l = map registry_entry l.all.items
    ≡ map registry_entry (take l.entry-index l.registries)
