use Rattle.std.proofs.Common.{◌≡◌, map, string_bytes, take}
use Rattle.edit_metadata.specs.Reading.{holds}
use Rattle.edit_shown.specs.HeldBack.{registries_by}
use Rattle.edit_shown.proofs.held_back.registries_by.Given as goal

-- the addresses so far
abbrev pub invariant-lookups : goal.invariant-lookups
invariant-lookups l = map string_bytes l.registries.keys
    ≡ registries_by (holds l.excluded) (holds l.dated) (take l.lookup-index l.lookups)
