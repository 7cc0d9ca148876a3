use Rattle.std.proofs.Common.{List}
use Rattle.std.specs.BTreeMap.{btree_map_len}
use Rattle.edit_base.specs.Paths.{texts}
use Rattle.edit_sources.specs.Configured.{given}
use Rattle.edit_sources.specs.Definitions.{Defines}
use Rattle.edit_sources.specs.Sources.{source_texts}
use Rattle.edit_sources.specs.declared.config.Config.{Config}
use Rattle.edit_sources.proofs.DefinitionLemmas.{IsWalk}
use Rattle.edit_sources.proofs.registry.definitions.Definitions.follow.Given as goal

abbrev pub invariant-loop-source : goal.invariant-loop-source
invariant-loop-source l = (configs : List Config) → Defines configs l.fn.self
    → IsWalk configs (given l.fn.registry) l.self (texts l.passed.items) (source_texts l.source)

abbrev pub decreases-loop-source : goal.decreases-loop-source
decreases-loop-source l = btree_map_len l.self.left
