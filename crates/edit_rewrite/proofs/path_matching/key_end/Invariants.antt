use Rattle.std.proofs.Common.{◌≡◌, drop}
use Rattle.edit_rewrite.specs.PairOffsets.{key_end}
use Rattle.edit_rewrite.proofs.path_matching.key_end.Given as goal

-- the tokens so far are those of parts of a key
abbrev pub invariant-tokens : goal.invariant-tokens
invariant-tokens l = key_end 0 l.tokens ≡ key_end l.end (drop l.token-index l.tokens)
