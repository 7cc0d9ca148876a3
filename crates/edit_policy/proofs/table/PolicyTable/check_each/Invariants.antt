use Rattle.std.proofs.Common.{◌≡◌, All, false, map}
use Rattle.edit_policy.specs.Policies.{is_stray}
use Rattle.edit_policy.specs.PolicyTables.{place_in, tree_in}
use Rattle.edit_policy.proofs.table.PolicyTable.check_each.Given as goal

abbrev pub invariant-names : goal.invariant-names
invariant-names l =
    All (λ name. is_stray l.keys (tree_in l.self) (place_in l.self) name ≡ false) (map (λ s. s.now) l.yielded)
