use Rattle.std.proofs.Common.{take, map}
use Rattle.edit_base.specs.Paths.{Named}
use Rattle.edit_base.proofs.paths.named_parts.Given as goal

abbrev pub invariant-loop-part : goal.invariant-loop-part
invariant-loop-part l = Named (map (λ x. x.now) (take l.part-index l.parts)) (map (λ x. x.now) l.names.items)
