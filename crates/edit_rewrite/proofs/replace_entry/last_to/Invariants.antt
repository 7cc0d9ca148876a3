use Rattle.std.proofs.Common.{◌≡◌, drop}
use Rattle.edit_rewrite.specs.PairOffsets.{last_end}
use Rattle.edit_rewrite.proofs.replace_entry.last_to.Given as goal

-- the last of the tokens so far ends there
abbrev pub invariant-tokens : goal.invariant-tokens
invariant-tokens l = last_end 0 l.tokens ≡ last_end l.end (drop l.token-index l.tokens)
