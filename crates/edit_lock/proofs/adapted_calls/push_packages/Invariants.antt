use Rattle.std.proofs.Common.{◌≡◌, ◌++◌, take}
use Rattle.std.specs.List.{flat_map}
use Rattle.edit_lock.specs.AdaptedCalls.{package_arguments}
use Rattle.edit_lock.specs.Views.{arguments_view, new_packages_view}
use Rattle.edit_lock.proofs.adapted_calls.push_packages.Given as goal

abbrev pub invariant-packages : goal.invariant-packages
invariant-packages l = arguments_view l.call.items ≡ arguments_view l.initial.call.items
    ++ flat_map package_arguments (new_packages_view (take l.package-index l.packages))
