use Rattle.std.proofs.Common.{◌≡◌, ◌-◌, ◌≤◌, length}
use Rattle.edit_syntax.specs.Reading.{basic_at}
use Rattle.edit_syntax.proofs.Loops.{rest_of}
use Rattle.edit_syntax.proofs.read.tokens.past_basic.Given as goal

-- where the string ends from here is where it ends, and each piece had a byte
abbrev pub invariant-pieces : goal.invariant-pieces
invariant-pieces l = (rest_of (basic_at l.rest) ≡ rest_of (basic_at l.s))
    × (length l.rest ≤ length l.s - l._piece)
