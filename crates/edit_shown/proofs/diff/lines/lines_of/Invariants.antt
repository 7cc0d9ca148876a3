use Rattle.std.proofs.Common.{◌≡◌, ◌++◌, length, map}
use Rattle.edit_shown.specs.Lines.{lines_of}
use Rattle.edit_shown.proofs.diff.lines.lines_of.Given as goal

-- the lines so far, and those of the rest
abbrev pub invariant-loop-line : goal.invariant-loop-line
invariant-loop-line l = lines_of l.text ≡ map (λ x. x.now) l.lines.items ++ lines_of l.rest

abbrev pub decreases-loop-line : goal.decreases-loop-line
decreases-loop-line l = length l.rest
