use Rattle.std.proofs.Common.{arith}
use Rattle.std.proofs.lemmas.Grind.{text_groups}
use Rattle.std.proofs.lemmas.List.{map-append}
use Rattle.edit_upgrade.proofs.update.groups.group_by_name.Goals as goal

pub packages-preserved : goal.packages-preserved
packages-preserved c = grind (arith, text_groups, map-append)
