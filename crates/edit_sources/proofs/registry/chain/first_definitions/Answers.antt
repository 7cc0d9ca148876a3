use Rattle.std.proofs.Common.{map, subst}
use Rattle.edit_sources.specs.SourceReplacement.{registry_definition, source_definition}
use Rattle.edit_sources.specs.Configured.{configuration, registry_entry, source_entry}
use Rattle.edit_sources.specs.Sources.{Adds}
use Rattle.edit_sources.proofs.SourceLemmas.{found_turn}
use Rattle.edit_sources.proofs.registry.chain.first_definitions.Goals as goal

pub loop-config-preserved : goal.loop-config-preserved
loop-config-preserved c =
    let early = subst (λ xs. Adds c.loop-config.sources c.add_registries.new.sources
    (map registry_definition (map registry_entry xs))) c.deref.ensures.value c.in_ok-add_registries.ensures in
    let late = subst (λ xs. Adds c.add_registries.new.sources c.add_sources.new.sources
    (map source_definition (map source_entry xs))) c.deref-in-loop-config.ensures.value
    c.in_ok-add_sources.ensures in
    found_turn configuration c.loop-config.sources c.add_registries.new.sources c.add_sources.new.sources
    c.args.configs.now c.loop-config.config-index c.config-item.result c.loop-config-test.true
    c.config-item.is c.loop-config.invariant early late
