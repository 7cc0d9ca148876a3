use Rattle.std.proofs.Common.{◌≡◌, ◌++◌, ◌<◌, ℕ, map, take, string_bytes, get_or}
use Rattle.edit_fetch.specs.Tokens.{variable_byte}
use Rattle.edit_fetch.proofs.tokens.registry_variable.Given as goal

abbrev pub invariant-loop-byte : goal.invariant-loop-byte
invariant-loop-byte l = (string_bytes l.variable
    ≡ string_bytes l.initial.variable ++ map variable_byte (take l.byte-index l.byte-items))
    × ((k : ℕ) → k < l.byte-index → get_or l.byte-items k 0 < 128)
