use Rattle.std.proofs.Common.{◌≡◌, ◌++◌, take}
use Rattle.edit_metadata.specs.Workspaces.{packages_view}
use Rattle.edit_upgrade.specs.Groups.{package_values}
use Rattle.edit_upgrade.specs.UpdateCalls.{packages_args}
use Rattle.edit_upgrade.specs.Views.{args_view}
use Rattle.edit_upgrade.proofs.update.update.add_packages.Given as goal

abbrev pub invariant-packages : goal.invariant-packages
invariant-packages l = args_view l.args.items ≡ args_view l.initial.args.items
    ++ packages_args (packages_view (package_values (take l.package-index l.packages)))
