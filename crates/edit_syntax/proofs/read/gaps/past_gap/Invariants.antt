use Rattle.std.proofs.Common.{◌≡◌, ◌-◌, length}
use Rattle.edit_syntax.specs.Reading.{gap_at, past_gap}
use Rattle.edit_syntax.proofs.read.gaps.past_gap.Given as goal

-- what follows the gap from here on follows the whole gap
abbrev pub invariant-gap : goal.invariant-gap
invariant-gap l = past_gap l.s ≡ (gap_at (length l.s - l._between) l.rest).1
