use Rattle.std.proofs.Common.{◌≡◌, take, true}
use Rattle.edit_policy.specs.Holds.{passes_holds}
use Rattle.edit_restricted_index.specs.HoldsByName.{policies_of}
use Rattle.edit_restricted_index.proofs.holds_by_name.admit_all.Given as goal

-- what is said so far admits the version
abbrev pub invariant-said : goal.invariant-said
invariant-said l = passes_holds (policies_of (take l.held-index l.said)) l.name l.version ≡ true
