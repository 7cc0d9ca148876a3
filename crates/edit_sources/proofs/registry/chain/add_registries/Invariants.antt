use Rattle.std.proofs.Common.{map, take}
use Rattle.edit_sources.specs.SourceReplacement.{registry_definition}
use Rattle.edit_sources.specs.Configured.{registry_entry}
use Rattle.edit_sources.specs.Sources.{Adds}
use Rattle.edit_sources.proofs.registry.chain.add_registries.Given as goal

abbrev pub invariant-loop-key : goal.invariant-loop-key
invariant-loop-key l =
    Adds l.initial.sources l.sources
    (map registry_definition (map registry_entry (take l.key-index l.registries)))
