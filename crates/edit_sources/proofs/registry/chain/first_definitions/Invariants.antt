use Rattle.std.proofs.Common.{◌≡◌, ℕ, List, take}
use Rattle.edit_sources.specs.SourceReplacement.{first}
use Rattle.edit_sources.specs.Configured.{all_definitions}
use Rattle.edit_sources.specs.Sources.{found}
use Rattle.edit_sources.proofs.registry.chain.first_definitions.Given as goal

abbrev pub invariant-loop-config : goal.invariant-loop-config
invariant-loop-config l = (key : List ℕ) → found l.sources key
    ≡ first key (all_definitions (take l.config-index l.configs))
