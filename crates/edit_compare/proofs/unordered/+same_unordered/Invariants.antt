use Rattle.edit_compare.proofs.UnorderedNodes.{UnorderedParts}
use Rattle.edit_compare.proofs.unordered.+same_unordered.Given as goal

abbrev pub decreases-same_unordered : goal.decreases-same_unordered
decreases-same_unordered l = l.depth

-- the parts so far show the same but for the order of members
abbrev pub invariant-parts : goal.invariant-parts
invariant-parts l = UnorderedParts l.document l.number l.other l.there l.index
