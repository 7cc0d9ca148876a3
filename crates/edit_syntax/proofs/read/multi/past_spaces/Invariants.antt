use Rattle.std.proofs.Common.{◌≡◌, ◌+◌, ◌-◌, length}
use Rattle.edit_syntax.specs.Reading.{spaces_at}
use Rattle.edit_syntax.proofs.Loops.{rest_of}
use Rattle.edit_syntax.proofs.read.multi.past_spaces.Given as goal

-- what follows the white space from here follows it
abbrev pub invariant-spaces : goal.invariant-spaces
invariant-spaces l = rest_of (spaces_at (length l.s + 1 - l._space) l.rest)
    ≡ rest_of (spaces_at (length l.s + 1) l.s)
