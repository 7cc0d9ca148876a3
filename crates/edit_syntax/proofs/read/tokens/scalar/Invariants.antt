use Rattle.std.proofs.Common.{◌≡◌, ◌^◌, ◌<◌, drop}
use Rattle.edit_syntax.specs.Reading as reading
use Rattle.edit_syntax.proofs.Codes.{scalar_after}
use Rattle.edit_syntax.proofs.read.tokens.scalar.Given as goal

-- what is left completes the code
abbrev pub invariant-loop-digit : goal.invariant-loop-digit
invariant-loop-digit l = (l.code < 16 ^ l.digit-index)
    × (scalar_after l.code (drop l.digit-index l.digits) ≡ reading.scalar l.digits)
