use Rattle.std.proofs.Common.{◌≡◌, map, not, take}
use Rattle.std.specs.BTreeSet.{contains_text}
use Rattle.std.specs.List.{filter}
use Rattle.edit_lock.specs.LockFile.{spec_of}
use Rattle.edit_lock.specs.Views.{locked_package_view, pair_of, new_package_pairs}
use Rattle.edit_lock.proofs.index.new_packages.Given as goal

abbrev pub invariant-packages : goal.invariant-packages
invariant-packages l = new_package_pairs l.gained.items
    ≡ map pair_of (filter (λ p. not (contains_text l.had (spec_of p)))
    (map locked_package_view (take l.package-index l.packages)))
