use Rattle.std.proofs.Common.{◌≡◌, ◌<◌, length, take}
use Rattle.edit_document.specs.Items.{node_place, place_view}
use Rattle.edit_document.proofs.document.Document.node_index.Given as goal

-- the steps so far lead to the node
abbrev pub invariant-steps : goal.invariant-steps
invariant-steps l = (l.number < length l.self.nodes)
    × (node_place l.self l.number ≡ place_view (take l.step-index l.place))
