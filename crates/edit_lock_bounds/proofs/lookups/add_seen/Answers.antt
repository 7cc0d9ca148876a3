use Rattle.std.proofs.Common.{arith}
use Rattle.std.proofs.lemmas.Grind.{text_groups}
use Rattle.std.proofs.lemmas.List.{map-append}
use Rattle.edit_lock_bounds.proofs.lookups.add_seen.Goals as goal

pub returns : goal.returns
returns c = grind (arith, text_groups, map-append)
