use Rattle.std.proofs.Common.{take}
use Rattle.edit_restricted_index.specs.HoldsByName.{IsHoldMap}
use Rattle.edit_restricted_index.proofs.holds_by_name.holds_by_name.Given as goal

-- what is said of the crates so far
abbrev pub invariant-crates : goal.invariant-crates
invariant-crates l = IsHoldMap (take l.held-index l.crates) l.holds
