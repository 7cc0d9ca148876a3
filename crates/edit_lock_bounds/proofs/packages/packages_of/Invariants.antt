use Rattle.std.proofs.Common.{◌≡◌, ◌++◌, drop, map, option_map}
use Rattle.toml.specs.View.{items_view}
use Rattle.edit_lock_bounds.specs.LockPackages.{packages_of}
use Rattle.edit_lock_bounds.specs.Views.{package_view}
use Rattle.edit_lock_bounds.proofs.packages.packages_of.Given as goal

abbrev pub invariant-values : goal.invariant-values
invariant-values l = packages_of (items_view l.values)
    ≡ option_map (λ rest. map package_view l.packages.items ++ rest)
    (packages_of (items_view (drop l.value-index l.values)))
