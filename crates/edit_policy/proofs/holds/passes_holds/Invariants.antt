use Rattle.std.proofs.Common.{◌≡◌, true, take}
use Rattle.edit_policy.specs.Holds.{passes_holds}
use Rattle.edit_policy.proofs.holds.passes_holds.Given as goal

abbrev pub invariant-crates : goal.invariant-crates
invariant-crates l = passes_holds (take l.held-index l.crates) l.name l.version ≡ true
