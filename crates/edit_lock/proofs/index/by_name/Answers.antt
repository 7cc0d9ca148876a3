use Rattle.std.proofs.Common.{arith}
use Rattle.std.proofs.lemmas.Grind.{text_groups}
use Rattle.edit_lock.proofs.index.by_name.Goals as goal

pub loop-package-preserved : goal.loop-package-preserved
loop-package-preserved c = grind (arith, text_groups)
