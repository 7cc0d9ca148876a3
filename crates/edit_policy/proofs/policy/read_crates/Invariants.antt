use Rattle.std.proofs.Common.{map}
use Rattle.std.specs.List.{AllZip}
use Rattle.edit_policy.specs.Policies.{IsCratePolicy}
use Rattle.edit_policy.specs.PolicyTables.{place_in, tree_in}
use Rattle.edit_policy.proofs.policy.read_crates.Given as goal

abbrev pub invariant-names : goal.invariant-names
invariant-names l =
    AllZip (IsCratePolicy (tree_in l.table) (place_in l.table)) (map (λ s. s.now) l.yielded) l.crates.items
