use Rattle.std.proofs.Common.{◌≡◌, ◌++◌, drop, map, option_map}
use Rattle.toml.specs.View.{items_view}
use Rattle.edit_lock.specs.LockFile.{packages_of}
use Rattle.edit_lock.specs.Views.{locked_package_view}
use Rattle.edit_lock.proofs.lock.packages_of.Given as goal

abbrev pub invariant-values : goal.invariant-values
invariant-values l = packages_of (items_view l.values)
    ≡ option_map (λ rest. map locked_package_view l.packages.items ++ rest)
    (packages_of (items_view (drop l.value-index l.values)))
