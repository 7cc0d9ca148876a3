use Rattle.std.proofs.Common.{List, drop}
use Rattle.std.specs.Prelude.{map}
use Rattle.edit_tree.specs.Nodes.{ModelNode, bytes_of, RepresentsNodes}
use Rattle.edit_tree.specs.Walk.{front_shape, fronts_followed}
use Rattle.edit_tree.proofs.KeyFronts.{Reaches}
use Rattle.edit_tree.proofs.assertions.follow_fronts.Given as goal

-- the parts that are left lead on from the table
abbrev pub invariant-fronts : goal.invariant-fronts
invariant-fronts l =
    (models : List ModelNode) → RepresentsNodes l.text l.fn.nodes.items models
    → Reaches l.text l.nodes.items
    (fronts_followed models l.fn.number (map (bytes_of l.text) l.fronts) (front_shape l.is_inline) l.taken) l.table
    (map (bytes_of l.text) (drop l.front-index l.fronts)) (front_shape l.is_inline) l.taken
