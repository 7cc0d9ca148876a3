use Rattle.std.proofs.Common.{◌≡◌, ◌++◌, None, map, take}
use Rattle.edit_base.specs.Paths.{texts}
use Rattle.edit_update.specs.FinalValueViews.{final_values_view}
use Rattle.edit_update.proofs.final_values.push_removed_keys.Given as goal

-- the keys that are removed so far
abbrev pub invariant-names : goal.invariant-names
invariant-names l =
    final_values_view l.ends.items
    ≡ final_values_view l.initial.ends.items ++ map (λ n. (n, None)) (texts (take l.name-index l.names))
