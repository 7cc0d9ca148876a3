use Rattle.std.proofs.Common.{◌≡◌, map, take}
use Rattle.std.specs.Prelude.{string_bytes}
use Rattle.edit_program.proofs.upgrade_output.delivery.copied_names.Given as goal

abbrev pub invariant-names : goal.invariant-names
invariant-names l = map string_bytes l.copies.items ≡ map string_bytes (take l.name-index l.names)
