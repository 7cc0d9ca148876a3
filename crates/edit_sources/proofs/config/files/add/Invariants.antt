use Rattle.std.proofs.Common.{◌≡◌, ◌++◌, map, take}
use Rattle.edit_sources.proofs.config.files.add.Given as goal

abbrev pub invariant-loop-config : goal.invariant-loop-config
invariant-loop-config l = map (λ c. c.now) l.configs.items
    ≡ map (λ c. c.now) l.initial.configs.items ++ take l.config-index l.found
