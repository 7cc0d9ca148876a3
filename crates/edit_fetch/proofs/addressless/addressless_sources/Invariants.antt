use Rattle.std.proofs.Common.{◌≡◌, ◌++◌, map, take}
use Rattle.std.specs.List.{flat_map}
use Rattle.edit_fetch.specs.Addressless.{place_in, place_of, sources_in, without_address}
use Rattle.edit_fetch.proofs.addressless.addressless_sources.Given as goal

abbrev pub invariant-loop-config : goal.invariant-loop-config
invariant-loop-config l =
    map place_of l.found.items
    ≡ without_address l.configs (flat_map sources_in (take l.config-index l.configs))

abbrev pub invariant-loop-key : goal.invariant-loop-key
invariant-loop-key l =
    map place_of l.found.items
    ≡ without_address l.configs (flat_map sources_in (take l.config-index l.configs)
    ++ map (place_in l.config) (take l.key-index l.config.sources.items))
