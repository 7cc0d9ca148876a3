use Rattle.std.proofs.Common.{◌≡◌, map, take}
use Rattle.edit_fetch.specs.Variables.{dashed_byte}
use Rattle.edit_fetch.proofs.variables.key_with_dashes.Given as goal

abbrev pub invariant-loop-byte : goal.invariant-loop-byte
invariant-loop-byte l = l.dashed.items ≡ map dashed_byte (take l.byte-index l.key)
