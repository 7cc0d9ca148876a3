use Rattle.std.proofs.Common.{◌≡◌, false, take}
use Rattle.edit_policy.specs.Holds.{has_hold}
use Rattle.edit_restricted_index.specs.HoldsByName.{policies_of}
use Rattle.edit_restricted_index.proofs.holds_by_name.is_hold_among.Given as goal

-- nothing so far is a hold
abbrev pub invariant-said : goal.invariant-said
invariant-said l = has_hold (policies_of (take l.held-index l.said)) l.name ≡ false
