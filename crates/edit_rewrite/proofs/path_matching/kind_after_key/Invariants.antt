use Rattle.std.proofs.Common.{◌≡◌, drop}
use Rattle.edit_rewrite.specs.Entries.{kind_after_key}
use Rattle.edit_rewrite.proofs.path_matching.kind_after_key.Given as goal

-- the tokens so far are those of parts of a key
abbrev pub invariant-tokens : goal.invariant-tokens
invariant-tokens l = kind_after_key l.tokens ≡ kind_after_key (drop l.token-index l.tokens)
