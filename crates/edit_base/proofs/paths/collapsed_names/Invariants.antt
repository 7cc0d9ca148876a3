use Rattle.std.proofs.Common.{take, map}
use Rattle.edit_base.specs.Paths.{Normal}
use Rattle.edit_base.proofs.paths.collapsed_names.Given as goal

abbrev pub invariant-loop-part : goal.invariant-loop-part
invariant-loop-part l = Normal (map (λ x. x.now) (take l.part-index l.parts)) (map (λ x. x.now) l.names.items)
