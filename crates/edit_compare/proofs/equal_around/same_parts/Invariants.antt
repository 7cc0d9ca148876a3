use Rattle.std.proofs.Common.{ℕ, ◌<◌}
use Rattle.edit_document.specs.Compared.{SamePart}
use Rattle.edit_compare.proofs.equal_around.same_parts.Given as goal

-- the parts so far are the same
abbrev pub invariant-parts : goal.invariant-parts
invariant-parts l = (i : ℕ) → i < l.index → SamePart l.document l.number l.other l.there i
