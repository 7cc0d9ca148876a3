use Rattle.std.proofs.Common.{map, take}
use Rattle.std.specs.Prelude.{string_bytes}
use Rattle.edit_upgrade.specs.PackageSelection.{ArePackageArgs}
use Rattle.edit_upgrade.proofs.package_selection.parse_package_args.Given as goal

abbrev pub invariant-each_arg : goal.invariant-each_arg
invariant-each_arg l = ArePackageArgs (map string_bytes (take l.arg-index l.args)) l.read
