use Rattle.std.proofs.Common.{◌≡◌, ◌≤◌, ◌-◌, length, take}
use Rattle.edit_base.specs.Paths.{texts}
use Rattle.edit_base.proofs.paths.common_count.Given as goal

abbrev pub invariant-loop-count : goal.invariant-loop-count
invariant-loop-count l = (l.count ≤ length l.to) × (l.count ≤ length l.from)
    × (texts (take l.count l.to) ≡ texts (take l.count l.from))

abbrev pub decreases-loop-count : goal.decreases-loop-count
decreases-loop-count l = length l.to - l.count
