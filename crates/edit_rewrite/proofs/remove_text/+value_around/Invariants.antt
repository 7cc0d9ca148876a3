use Rattle.std.proofs.Common.{length}
use Rattle.edit_rewrite.proofs.remove_text.+value_around.Given as goal

abbrev pub decreases-value_around : goal.decreases-value_around
decreases-value_around l = length l.place.now
