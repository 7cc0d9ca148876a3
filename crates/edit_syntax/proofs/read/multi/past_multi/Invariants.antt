use Rattle.std.proofs.Common.{◌≡◌, ◌-◌, length}
use Rattle.edit_syntax.specs.Reading.{body_at, multi_at}
use Rattle.edit_syntax.proofs.Loops.{rest_of}
use Rattle.edit_syntax.proofs.read.multi.past_multi.Given as goal

-- where the string ends from here is where it ends
abbrev pub invariant-pieces : goal.invariant-pieces
invariant-pieces l = rest_of (body_at l.delimiter_byte (length l.s - l._piece) l.few l.rest)
    ≡ rest_of (multi_at l.delimiter_byte l.s)
