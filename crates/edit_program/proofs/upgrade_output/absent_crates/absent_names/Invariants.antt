use Rattle.std.proofs.Common.{◌≡◌, map, take}
use Rattle.std.specs.Prelude.{string_bytes}
use Rattle.edit_metadata.specs.Reading.{holds}
use Rattle.edit_program.specs.Absent.{absent_names}
use Rattle.edit_program.proofs.upgrade_output.absent_crates.absent_names.Given as goal

-- the names so far
abbrev pub invariant-loop-lookup : goal.invariant-loop-lookup
invariant-loop-lookup l = map string_bytes l.names.items ≡ absent_names (holds l.excluded) (take l.lookup-index l.lookups)
