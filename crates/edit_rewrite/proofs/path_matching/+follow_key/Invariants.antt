use Rattle.std.proofs.Common.{length}
use Rattle.edit_rewrite.proofs.path_matching.+follow_key.Given as goal

abbrev pub decreases-follow_key : goal.decreases-follow_key
decreases-follow_key l = length l.tokens.now
