use Rattle.std.proofs.Common.{take}
use Rattle.edit_upgrade.specs.Groups.{AreGroups}
use Rattle.edit_upgrade.proofs.update.groups.group_by_name.Given as goal

abbrev pub invariant-packages : goal.invariant-packages
invariant-packages l = AreGroups l.groups (take l.package-index l.packages)
