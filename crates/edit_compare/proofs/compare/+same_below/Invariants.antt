use Rattle.edit_document.proofs.SameParts.{SameParts}
use Rattle.edit_compare.proofs.compare.+same_below.Given as goal

abbrev pub decreases-same_below : goal.decreases-same_below
decreases-same_below l = l.depth

-- the same stands at the parts so far
abbrev pub invariant-parts : goal.invariant-parts
invariant-parts l = SameParts l.document l.number l.other l.there l.index
