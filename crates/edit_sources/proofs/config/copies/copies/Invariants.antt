use Rattle.std.proofs.Common.{◌≡◌, map, take}
use Rattle.edit_sources.specs.Configured.{path_and_entries}
use Rattle.edit_sources.proofs.config.copies.copies.Given as goal

abbrev pub invariant-loop-config : goal.invariant-loop-config
invariant-loop-config l = map path_and_entries l.all.items
    ≡ map path_and_entries (map (λ c. c.now) (take l.config-index l.configs))
