use Rattle.std.proofs.Common.{map, take}
use Rattle.edit_sources.specs.SourceReplacement.{source_definition}
use Rattle.edit_sources.specs.Configured.{source_entry}
use Rattle.edit_sources.specs.Sources.{Adds}
use Rattle.edit_sources.proofs.registry.chain.add_sources.Given as goal

abbrev pub invariant-loop-key : goal.invariant-loop-key
invariant-loop-key l =
    Adds l.initial.sources l.sources (map source_definition (map source_entry (take l.key-index l.defined)))
