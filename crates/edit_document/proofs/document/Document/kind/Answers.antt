use Rattle.std.proofs.Common.{sym, ap, ◌∙◌}
use Rattle.edit_document.specs.Compared.{kind_of}
use Rattle.edit_tree.specs.Tree.{truth}
use Rattle.edit_document.proofs.ContentViews.{kind_shown}
use Rattle.edit_document.proofs.Views.{opened, within, found}
use Rattle.edit_document.proofs.document.Document.kind.Goals as goal

pub index-node-requires : goal.index-node-requires
index-node-requires c =
    within c.args.self.now c.self.inside.nodes.items c.self.inside.nodes.len c.args.number
    (opened c.self.inside c.args.self.now c.self.invariant c.self.view_is) c.self.inside.nodes.ok.0 c.requires

pub returns-in-Text : goal.returns-in-Text
returns-in-Text c =
    let opens = opened c.self.inside c.args.self.now c.self.invariant c.self.view_is in
    let node = c.index-node.result.now in
    let f = found c.args.self.now c.self.inside.nodes.items c.args.number node opens c.requires
    c.index-node.ensures in
    kind_shown c.args.self.now c.self.inside.nodes.items opens.models c.args.number node _ f c.in-Text.is

pub returns-then-truth : goal.returns-then-truth
returns-then-truth c =
    let opens = opened c.self.inside c.args.self.now c.self.invariant c.self.view_is in
    let node = c.index-node.result.now in
    let f = found c.args.self.now c.self.inside.nodes.items c.args.number node opens c.requires
    c.index-node.ensures in
    ap (λ b. kind_of (truth b)) (sym c.if-truth.true) ∙
    kind_shown c.args.self.now c.self.inside.nodes.items opens.models c.args.number node _ f c.in-Truth.is

pub returns-else-truth : goal.returns-else-truth
returns-else-truth c =
    let opens = opened c.self.inside c.args.self.now c.self.invariant c.self.view_is in
    let node = c.index-node.result.now in
    let f = found c.args.self.now c.self.inside.nodes.items c.args.number node opens c.requires
    c.index-node.ensures in
    ap (λ b. kind_of (truth b)) (sym c.if-truth.false) ∙
    kind_shown c.args.self.now c.self.inside.nodes.items opens.models c.args.number node _ f c.in-Truth.is

pub returns-in-Integer : goal.returns-in-Integer
returns-in-Integer c =
    let opens = opened c.self.inside c.args.self.now c.self.invariant c.self.view_is in
    let node = c.index-node.result.now in
    let f = found c.args.self.now c.self.inside.nodes.items c.args.number node opens c.requires
    c.index-node.ensures in
    kind_shown c.args.self.now c.self.inside.nodes.items opens.models c.args.number node _ f c.in-Integer.is

pub returns-in-Float : goal.returns-in-Float
returns-in-Float c =
    let opens = opened c.self.inside c.args.self.now c.self.invariant c.self.view_is in
    let node = c.index-node.result.now in
    let f = found c.args.self.now c.self.inside.nodes.items c.args.number node opens c.requires
    c.index-node.ensures in
    kind_shown c.args.self.now c.self.inside.nodes.items opens.models c.args.number node _ f c.in-Float.is

pub returns-in-DateTime : goal.returns-in-DateTime
returns-in-DateTime c =
    let opens = opened c.self.inside c.args.self.now c.self.invariant c.self.view_is in
    let node = c.index-node.result.now in
    let f = found c.args.self.now c.self.inside.nodes.items c.args.number node opens c.requires
    c.index-node.ensures in
    kind_shown c.args.self.now c.self.inside.nodes.items opens.models c.args.number node _ f c.in-DateTime.is

pub returns-in-Array : goal.returns-in-Array
returns-in-Array c =
    let opens = opened c.self.inside c.args.self.now c.self.invariant c.self.view_is in
    let node = c.index-node.result.now in
    let f = found c.args.self.now c.self.inside.nodes.items c.args.number node opens c.requires
    c.index-node.ensures in
    kind_shown c.args.self.now c.self.inside.nodes.items opens.models c.args.number node _ f c.in-Array.is

pub returns-in-Tables : goal.returns-in-Tables
returns-in-Tables c =
    let opens = opened c.self.inside c.args.self.now c.self.invariant c.self.view_is in
    let node = c.index-node.result.now in
    let f = found c.args.self.now c.self.inside.nodes.items c.args.number node opens c.requires
    c.index-node.ensures in
    kind_shown c.args.self.now c.self.inside.nodes.items opens.models c.args.number node _ f c.in-Tables.is

pub returns-in-Inline : goal.returns-in-Inline
returns-in-Inline c =
    let opens = opened c.self.inside c.args.self.now c.self.invariant c.self.view_is in
    let node = c.index-node.result.now in
    let f = found c.args.self.now c.self.inside.nodes.items c.args.number node opens c.requires
    c.index-node.ensures in
    kind_shown c.args.self.now c.self.inside.nodes.items opens.models c.args.number node _ f c.in-Inline.is

pub returns-in-Table : goal.returns-in-Table
returns-in-Table c =
    let opens = opened c.self.inside c.args.self.now c.self.invariant c.self.view_is in
    let node = c.index-node.result.now in
    let f = found c.args.self.now c.self.inside.nodes.items c.args.number node opens c.requires
    c.index-node.ensures in
    kind_shown c.args.self.now c.self.inside.nodes.items opens.models c.args.number node _ f c.in-Table.is
