use Rattle.std.proofs.Common.{◌≡◌, map, take}
use Rattle.edit_fetch.specs.Variables.{key_byte}
use Rattle.edit_fetch.proofs.variables.registry_key.Given as goal

abbrev pub invariant-loop-byte : goal.invariant-loop-byte
invariant-loop-byte l = l.key.items ≡ map key_byte (take l.byte-index l.part)
