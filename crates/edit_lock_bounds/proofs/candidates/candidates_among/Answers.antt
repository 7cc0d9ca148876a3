use Rattle.std.proofs.Common.{arith}
use Rattle.std.proofs.lemmas.Grind.{common_steps}
use Rattle.std.proofs.lemmas.List.Elements.{filter_map-append}
use Rattle.edit_lock_bounds.proofs.candidates.candidates_among.Goals as goal

pub texts-preserved : goal.texts-preserved
texts-preserved c = grind (arith, common_steps, filter_map-append)
