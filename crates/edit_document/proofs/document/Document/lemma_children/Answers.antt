use Rattle.std.specs.Str.{IsUtf8}
use Rattle.std.proofs.Common.{subst}
use Rattle.edit_document.proofs.Views.{opened, within, found}
use Rattle.edit_document.proofs.WholeDocuments.{whole}
use Rattle.edit_document.proofs.document.Document.lemma_children.Goals as goal

pub index-node-requires : goal.index-node-requires
index-node-requires c = within c.args.self.now c.self.inside.nodes.items c.self.inside.nodes.len c.args.number
    (opened c.self.inside c.args.self.now c.self.invariant c.self.view_is) c.self.inside.nodes.ok.0 c.requires

pub returns : goal.returns
returns c =
    whole c.self.inside c.args.self.now c.args.number c.index-node.result.now c.self.invariant c.self.view_is
    (subst IsUtf8 c.as_str-text.ensures.value c.as_str-text.utf8)
    (found c.args.self.now c.self.inside.nodes.items c.args.number c.index-node.result.now
    (opened c.self.inside c.args.self.now c.self.invariant c.self.view_is) c.requires
    c.index-node.ensures)
