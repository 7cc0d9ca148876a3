use Rattle.std.proofs.Common.{rules}
use Rattle.edit_sources.specs.SourceReplacement.{source_definition}
use Rattle.edit_sources.specs.Configured.{source_entry}
use Rattle.edit_sources.proofs.SourceLemmas.{Adds_turn}
use Rattle.edit_sources.proofs.registry.chain.add_sources.Goals as goal

pub loop-key-preserved : goal.loop-key-preserved
loop-key-preserved c =
    Adds_turn source_definition source_entry c.args.sources.now c.loop-key.sources c.define.new.sources
    c.args.defined.now c.loop-key.key-index c.loop-key-item.result _ c.loop-key-test.true c.loop-key-item.is
    (search rules) c.loop-key.invariant c.in_ok-define.ensures
