use Rattle.std.proofs.Common.{◌≡◌, map, string_bytes, take}
use Rattle.edit_sources.specs.CachedConfigs.{found_in}
use Rattle.edit_sources.proofs.config.cache.ConfigCache.configs_in.Given as goal

abbrev pub invariant-loop-place : goal.invariant-loop-place
invariant-loop-place l = map (λ c. c.now) l.configs.items
    ≡ found_in l.self (map string_bytes (take l.place-index l.places))
