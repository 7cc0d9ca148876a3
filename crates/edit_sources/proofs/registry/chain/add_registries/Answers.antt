use Rattle.std.proofs.Common.{rules}
use Rattle.edit_sources.specs.SourceReplacement.{registry_definition}
use Rattle.edit_sources.specs.Configured.{registry_entry}
use Rattle.edit_sources.proofs.SourceLemmas.{Adds_turn}
use Rattle.edit_sources.proofs.registry.chain.add_registries.Goals as goal

pub loop-key-preserved : goal.loop-key-preserved
loop-key-preserved c =
    Adds_turn registry_definition registry_entry c.args.sources.now c.loop-key.sources c.define.new.sources
    c.args.registries.now c.loop-key.key-index c.loop-key-item.result _ c.loop-key-test.true
    c.loop-key-item.is (search rules) c.loop-key.invariant c.in_ok-define.ensures
