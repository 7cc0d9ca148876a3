use Rattle.edit_document.proofs.Views.{opened, within, found}
use Rattle.edit_document.proofs.MemberViews.{node_stands}
use Rattle.edit_document.proofs.document.Document.lemma_exists.Goals as goal

pub index-node-requires : goal.index-node-requires
index-node-requires c = within c.args.self.now c.self.inside.nodes.items c.self.inside.nodes.len c.args.number
    (opened c.self.inside c.args.self.now c.self.invariant c.self.view_is) c.self.inside.nodes.ok.0 c.requires

pub returns : goal.returns
returns c =
    let f = found c.args.self.now c.self.inside.nodes.items c.args.number c.index-node.result.now
    (opened c.self.inside c.args.self.now c.self.invariant c.self.view_is) c.requires c.index-node.ensures in
    node_stands c.args.self.now c.self.inside.nodes.items c.args.number c.index-node.result.now
    (opened c.self.inside c.args.self.now c.self.invariant c.self.view_is) f
