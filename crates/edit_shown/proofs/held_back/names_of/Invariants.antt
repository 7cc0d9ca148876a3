use Rattle.std.proofs.Common.{◌≡◌, map, take}
use Rattle.std.specs.Prelude.{string_bytes}
use Rattle.edit_metadata.specs.Reading.{holds}
use Rattle.edit_shown.specs.HeldBack.{names_of}
use Rattle.edit_shown.proofs.held_back.names_of.Given as goal

-- the names so far
abbrev pub invariant-loop-lookup : goal.invariant-loop-lookup
invariant-loop-lookup l = map string_bytes l.names.items
    ≡ names_of l.cause (holds l.excluded) (take l.lookup-index l.lookups)
