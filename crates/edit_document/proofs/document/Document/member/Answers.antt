use Rattle.std.proofs.Common.{◌≡◌, ℕ, List, sym, subst, ◌∙◌}
use Rattle.edit_tree.specs.Nodes.{entries_of, number_in, IsIndexed}
use Rattle.edit_document.proofs.ShownForms.{shown_bytes}
use Rattle.edit_document.proofs.Views.{opened, within, found}
use Rattle.edit_document.proofs.MemberViews.{member_here}
use Rattle.edit_document.proofs.document.Document.member.Goals as goal

pub index-node-requires : goal.index-node-requires
index-node-requires c = within c.args.self.now c.self.inside.nodes.items c.self.inside.nodes.len c.args.number
    (opened c.self.inside c.args.self.now c.self.invariant c.self.view_is) c.self.inside.nodes.ok.0 c.requires

pub returns : goal.returns
returns c =
    let f = found c.args.self.now c.self.inside.nodes.items c.args.number c.index-node.result.now
    (opened c.self.inside c.args.self.now c.self.invariant c.self.view_is) c.requires c.index-node.ensures in
    let here = c.as_str.ensures.value ∙ shown_bytes c.self.inside c.args.self.now c.self.view_is in
    let members = c.index-node.result.now.members in
    let number = subst (λ (b : List ℕ). c.get.result ≡ number_in (entries_of b members) c.args.key.now) here
    (c.get.ensures (subst (λ (b : List ℕ). IsIndexed b members) (sym here) f.keeps.indexed)) in
    member_here c.args.self.now c.self.inside.nodes.items c.args.number c.index-node.result.now c.args.key.now
    c.get.result (opened c.self.inside c.args.self.now c.self.invariant c.self.view_is) f number
