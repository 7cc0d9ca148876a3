use Rattle.std.proofs.Common.{◌≡◌, map, string_bytes, take}
use Rattle.edit_sources.specs.Configured.{paths_of}
use Rattle.edit_sources.proofs.config.copies.copied_paths.Given as goal

abbrev pub invariant-loop-config : goal.invariant-loop-config
invariant-loop-config l = map string_bytes l.all.items
    ≡ paths_of (map (λ c. c.now) (take l.config-index l.configs))
