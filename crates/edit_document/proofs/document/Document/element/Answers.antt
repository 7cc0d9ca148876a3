use Rattle.std.proofs.Common.{ℕ, List, ap, ◌∙◌}
use Rattle.std.specs.Prelude.{slice_get}
use Rattle.edit_document.proofs.Views.{opened, within, found}
use Rattle.edit_document.proofs.MemberViews.{got, element_here}
use Rattle.edit_document.proofs.document.Document.element.Goals as goal

pub index-node-requires : goal.index-node-requires
index-node-requires c = within c.args.self.now c.self.inside.nodes.items c.self.inside.nodes.len c.args.number
    (opened c.self.inside c.args.self.now c.self.invariant c.self.view_is) c.self.inside.nodes.ok.0 c.requires

pub returns : goal.returns
returns c =
    let f = found c.args.self.now c.self.inside.nodes.items c.args.number c.index-node.result.now
    (opened c.self.inside c.args.self.now c.self.invariant c.self.view_is) c.requires c.index-node.ensures in
    element_here c.args.self.now c.self.inside.nodes.items c.args.number c.index-node.result.now c.args.index
    c.copied.result (opened c.self.inside c.args.self.now c.self.invariant c.self.view_is) f
    (c.copied.ensures ∙ got c.elements.result.now c.args.index _ c.get.result c.get.ensures.lookup.3
    c.get.ensures.lookup.1 ∙ ap (λ (es : List ℕ). slice_get es c.args.index) c.elements.ensures)
