use Rattle.std.proofs.Common.{◌≡◌, drop}
use Rattle.edit_sources.specs.Configured.{all_definitions}
use Rattle.edit_sources.specs.SourceReplacement.{first}
use Rattle.edit_fetch.proofs.addressless.is_empty.Given as goal

abbrev pub invariant-loop-config : goal.invariant-loop-config
invariant-loop-config l =
    first l.key (all_definitions l.configs) ≡ first l.key (all_definitions (drop l.config-index l.configs))
