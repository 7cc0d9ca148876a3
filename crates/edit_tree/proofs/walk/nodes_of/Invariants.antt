use Rattle.std.proofs.Common.{drop}
use Rattle.std.specs.List.{AllByRecursion}
use Rattle.edit_tree.specs.WalkState.{IsToken}
use Rattle.edit_tree.proofs.WalkEnds.{Along}
use Rattle.edit_tree.proofs.walk.nodes_of.Given as goal

-- the walk is in the state after the tokens so far
abbrev pub invariant-tokens : goal.invariant-tokens
invariant-tokens l = AllByRecursion (IsToken l.text) l.tokens
    → Along l.walk l.text l.tokens (drop l.token-index l.tokens)
