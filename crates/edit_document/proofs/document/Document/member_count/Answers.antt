use Rattle.std.proofs.Common.{ℕ, List, length, ap, sym, ◌∙◌}
use Rattle.edit_document.proofs.Views.{opened, within, found}
use Rattle.edit_document.proofs.MemberViews.{count_elements, count_scalar, count_tabular}
use Rattle.edit_document.proofs.document.Document.member_count.Goals as goal

pub index-node-requires : goal.index-node-requires
index-node-requires c = within c.args.self.now c.self.inside.nodes.items c.self.inside.nodes.len c.args.number
    (opened c.self.inside c.args.self.now c.self.invariant c.self.view_is) c.self.inside.nodes.ok.0 c.requires

pub returns-in-Text : goal.returns-in-Text
returns-in-Text c =
    let f = found c.args.self.now c.self.inside.nodes.items c.args.number c.index-node.result.now
    (opened c.self.inside c.args.self.now c.self.invariant c.self.view_is) c.requires c.index-node.ensures in
    sym (count_scalar c.args.self.now c.self.inside.nodes.items
    (opened c.self.inside c.args.self.now c.self.invariant c.self.view_is).models c.args.number
    c.index-node.result.now f c.in-Text.is)

pub returns-in-Text-2 : goal.returns-in-Text-2
returns-in-Text-2 c =
    let f = found c.args.self.now c.self.inside.nodes.items c.args.number c.index-node.result.now
    (opened c.self.inside c.args.self.now c.self.invariant c.self.view_is) c.requires c.index-node.ensures in
    sym (count_scalar c.args.self.now c.self.inside.nodes.items
    (opened c.self.inside c.args.self.now c.self.invariant c.self.view_is).models c.args.number
    c.index-node.result.now f c.in-Text.is)

pub returns-in-Text-3 : goal.returns-in-Text-3
returns-in-Text-3 c =
    let f = found c.args.self.now c.self.inside.nodes.items c.args.number c.index-node.result.now
    (opened c.self.inside c.args.self.now c.self.invariant c.self.view_is) c.requires c.index-node.ensures in
    sym (count_scalar c.args.self.now c.self.inside.nodes.items
    (opened c.self.inside c.args.self.now c.self.invariant c.self.view_is).models c.args.number
    c.index-node.result.now f c.in-Text.is)

pub returns-in-Text-4 : goal.returns-in-Text-4
returns-in-Text-4 c =
    let f = found c.args.self.now c.self.inside.nodes.items c.args.number c.index-node.result.now
    (opened c.self.inside c.args.self.now c.self.invariant c.self.view_is) c.requires c.index-node.ensures in
    sym (count_scalar c.args.self.now c.self.inside.nodes.items
    (opened c.self.inside c.args.self.now c.self.invariant c.self.view_is).models c.args.number
    c.index-node.result.now f c.in-Text.is)

pub returns-in-Text-5 : goal.returns-in-Text-5
returns-in-Text-5 c =
    let f = found c.args.self.now c.self.inside.nodes.items c.args.number c.index-node.result.now
    (opened c.self.inside c.args.self.now c.self.invariant c.self.view_is) c.requires c.index-node.ensures in
    sym (count_scalar c.args.self.now c.self.inside.nodes.items
    (opened c.self.inside c.args.self.now c.self.invariant c.self.view_is).models c.args.number
    c.index-node.result.now f c.in-Text.is)

pub returns-in-Inline : goal.returns-in-Inline
returns-in-Inline c =
    let f = found c.args.self.now c.self.inside.nodes.items c.args.number c.index-node.result.now
    (opened c.self.inside c.args.self.now c.self.invariant c.self.view_is) c.requires c.index-node.ensures in
    c.len.ensures c.args.self.now.bytes ∙
    sym (count_tabular c.args.self.now c.self.inside.nodes.items
    (opened c.self.inside c.args.self.now c.self.invariant c.self.view_is).models c.args.number
    c.index-node.result.now f c.in-Inline.is)

pub returns-in-Array : goal.returns-in-Array
returns-in-Array c =
    let f = found c.args.self.now c.self.inside.nodes.items c.args.number c.index-node.result.now
    (opened c.self.inside c.args.self.now c.self.invariant c.self.view_is) c.requires c.index-node.ensures in
    ap (λ (es : List ℕ). length es) c.elements.ensures ∙
    sym (count_elements c.args.self.now c.self.inside.nodes.items
    (opened c.self.inside c.args.self.now c.self.invariant c.self.view_is).models c.args.number
    c.index-node.result.now f c.in-Array.is)
