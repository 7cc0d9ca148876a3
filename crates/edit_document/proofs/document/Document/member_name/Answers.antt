use Rattle.std.proofs.Common.{ℕ, List, ap, sym, ◌∙◌, slice_get}
use Rattle.edit_tree.specs.Nodes.{entries_of, names_in}
use Rattle.edit_document.proofs.ShownForms.{shown_bytes}
use Rattle.edit_document.proofs.Views.{opened, within, found}
use Rattle.edit_document.proofs.MemberViews.{names_none, names_tabular}
use Rattle.edit_document.proofs.document.Document.member_name.Goals as goal

pub index-node-requires : goal.index-node-requires
index-node-requires c = within c.args.self.now c.self.inside.nodes.items c.self.inside.nodes.len c.args.number
    (opened c.self.inside c.args.self.now c.self.invariant c.self.view_is) c.self.inside.nodes.ok.0 c.requires

pub returns-in-Inline : goal.returns-in-Inline
returns-in-Inline c =
    let f = found c.args.self.now c.self.inside.nodes.items c.args.number c.index-node.result.now
    (opened c.self.inside c.args.self.now c.self.invariant c.self.view_is) c.requires c.index-node.ensures in
    let here = c.as_str.ensures.value ∙ shown_bytes c.self.inside c.args.self.now c.self.view_is in
    c.name.ensures ∙ ap (λ (b : List ℕ). slice_get
    (names_in (entries_of b c.index-node.result.now.members)) c.args.index) here ∙
    sym (ap (λ (xs : List (List ℕ)). slice_get xs c.args.index)
    (names_tabular c.args.self.now c.self.inside.nodes.items
    (opened c.self.inside c.args.self.now c.self.invariant c.self.view_is).models c.args.number
    c.index-node.result.now f c.in-Inline.is))

pub returns-in-Text : goal.returns-in-Text
returns-in-Text c =
    let f = found c.args.self.now c.self.inside.nodes.items c.args.number c.index-node.result.now
    (opened c.self.inside c.args.self.now c.self.invariant c.self.view_is) c.requires c.index-node.ensures in
    sym (ap (λ (xs : List (List ℕ)). slice_get xs c.args.index)
    (names_none c.args.self.now c.self.inside.nodes.items
    (opened c.self.inside c.args.self.now c.self.invariant c.self.view_is).models c.args.number
    c.index-node.result.now f c.in-Text.is))
