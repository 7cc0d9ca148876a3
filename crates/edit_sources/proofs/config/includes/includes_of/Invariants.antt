use Rattle.std.proofs.Common.{◌≡◌, ◌++◌, drop, map, option_map}
use Rattle.toml.specs.View.{items_view}
use Rattle.edit_sources.specs.Configured.{include_view}
use Rattle.edit_sources.specs.Includes.{includes_of}
use Rattle.edit_sources.proofs.config.includes.includes_of.Given as goal

abbrev pub invariant-values : goal.invariant-values
invariant-values l = includes_of l.folder (items_view l.values)
    ≡ option_map (λ rest. map include_view l.includes.items ++ rest)
    (includes_of l.folder (items_view (drop l.value-index l.values)))
