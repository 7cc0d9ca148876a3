use Rattle.std.proofs.Common.{ap, sym, ◌∙◌, length}
use Rattle.std.proofs.lemmas.List.{length-map}
use Rattle.edit_tree.specs.Nodes.{entries_of}
use Rattle.edit_document.proofs.Views.{opened, within, found}
use Rattle.edit_document.proofs.MemberViews.{names_none, names_tabular}
use Rattle.edit_document.proofs.document.Document.name_count.Goals as goal

pub index-node-requires : goal.index-node-requires
index-node-requires c = within c.args.self.now c.self.inside.nodes.items c.self.inside.nodes.len c.args.number
    (opened c.self.inside c.args.self.now c.self.invariant c.self.view_is) c.self.inside.nodes.ok.0 c.requires

pub returns-in-Text : goal.returns-in-Text
returns-in-Text c =
    let f = found c.args.self.now c.self.inside.nodes.items c.args.number c.index-node.result.now
    (opened c.self.inside c.args.self.now c.self.invariant c.self.view_is) c.requires c.index-node.ensures in
    sym (ap length (names_none c.args.self.now c.self.inside.nodes.items
    (opened c.self.inside c.args.self.now c.self.invariant c.self.view_is).models c.args.number
    c.index-node.result.now f c.in-Text.is))

pub returns-in-Text-2 : goal.returns-in-Text-2
returns-in-Text-2 c =
    let f = found c.args.self.now c.self.inside.nodes.items c.args.number c.index-node.result.now
    (opened c.self.inside c.args.self.now c.self.invariant c.self.view_is) c.requires c.index-node.ensures in
    sym (ap length (names_none c.args.self.now c.self.inside.nodes.items
    (opened c.self.inside c.args.self.now c.self.invariant c.self.view_is).models c.args.number
    c.index-node.result.now f c.in-Text.is))

pub returns-in-Text-3 : goal.returns-in-Text-3
returns-in-Text-3 c =
    let f = found c.args.self.now c.self.inside.nodes.items c.args.number c.index-node.result.now
    (opened c.self.inside c.args.self.now c.self.invariant c.self.view_is) c.requires c.index-node.ensures in
    sym (ap length (names_none c.args.self.now c.self.inside.nodes.items
    (opened c.self.inside c.args.self.now c.self.invariant c.self.view_is).models c.args.number
    c.index-node.result.now f c.in-Text.is))

pub returns-in-Text-4 : goal.returns-in-Text-4
returns-in-Text-4 c =
    let f = found c.args.self.now c.self.inside.nodes.items c.args.number c.index-node.result.now
    (opened c.self.inside c.args.self.now c.self.invariant c.self.view_is) c.requires c.index-node.ensures in
    sym (ap length (names_none c.args.self.now c.self.inside.nodes.items
    (opened c.self.inside c.args.self.now c.self.invariant c.self.view_is).models c.args.number
    c.index-node.result.now f c.in-Text.is))

pub returns-in-Text-5 : goal.returns-in-Text-5
returns-in-Text-5 c =
    let f = found c.args.self.now c.self.inside.nodes.items c.args.number c.index-node.result.now
    (opened c.self.inside c.args.self.now c.self.invariant c.self.view_is) c.requires c.index-node.ensures in
    sym (ap length (names_none c.args.self.now c.self.inside.nodes.items
    (opened c.self.inside c.args.self.now c.self.invariant c.self.view_is).models c.args.number
    c.index-node.result.now f c.in-Text.is))

pub returns-in-Text-6 : goal.returns-in-Text-6
returns-in-Text-6 c =
    let f = found c.args.self.now c.self.inside.nodes.items c.args.number c.index-node.result.now
    (opened c.self.inside c.args.self.now c.self.invariant c.self.view_is) c.requires c.index-node.ensures in
    sym (ap length (names_none c.args.self.now c.self.inside.nodes.items
    (opened c.self.inside c.args.self.now c.self.invariant c.self.view_is).models c.args.number
    c.index-node.result.now f c.in-Text.is))

pub returns-in-Text-7 : goal.returns-in-Text-7
returns-in-Text-7 c =
    let f = found c.args.self.now c.self.inside.nodes.items c.args.number c.index-node.result.now
    (opened c.self.inside c.args.self.now c.self.invariant c.self.view_is) c.requires c.index-node.ensures in
    sym (ap length (names_none c.args.self.now c.self.inside.nodes.items
    (opened c.self.inside c.args.self.now c.self.invariant c.self.view_is).models c.args.number
    c.index-node.result.now f c.in-Text.is))

pub returns-in-Inline : goal.returns-in-Inline
returns-in-Inline c =
    let f = found c.args.self.now c.self.inside.nodes.items c.args.number c.index-node.result.now
    (opened c.self.inside c.args.self.now c.self.invariant c.self.view_is) c.requires c.index-node.ensures in
    c.len.ensures c.args.self.now.bytes ∙
    sym (ap length (names_tabular c.args.self.now c.self.inside.nodes.items
    (opened c.self.inside c.args.self.now c.self.invariant c.self.view_is).models c.args.number
    c.index-node.result.now f c.in-Inline.is) ∙
    length-map (entries_of c.args.self.now.bytes c.index-node.result.now.members) (λ e. e.0))
