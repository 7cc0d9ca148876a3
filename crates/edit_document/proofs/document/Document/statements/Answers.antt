use Rattle.std.specs.Str.{IsUtf8}
use Rattle.std.proofs.Common.{subst}
use Rattle.edit_document.proofs.NodeAnswers.{stood, value_answer, super_answer, array_answer, header_answer, element_answer, only_answer, other_answer}
use Rattle.edit_document.proofs.Views.{opened, within, found}
use Rattle.edit_document.proofs.document.Document.statements.Goals as goal

pub index-node-requires : goal.index-node-requires
index-node-requires c =
    within c.args.self.now c.self.inside.nodes.items c.self.inside.nodes.len c.args.number
    (opened c.self.inside c.args.self.now c.self.invariant c.self.view_is) c.self.inside.nodes.ok.0 c.requires

pub returns-in-Value : goal.returns-in-Value
returns-in-Value c form upper name manifest place =
    let opens = opened c.self.inside c.args.self.now c.self.invariant c.self.view_is in
    let f = found c.args.self.now c.self.inside.nodes.items c.args.number c.index-node.result.now opens
    c.requires c.index-node.ensures in
    let st = stood c.self.inside c.args.self.now c.self.invariant c.self.view_is
    (subst IsUtf8 c.as_str-text.ensures.value c.as_str-text.utf8) form manifest in
    value_answer c.args.self.now c.self.inside.nodes.items opens c.args.number c.index-node.result.now f form
    st upper name place c.in-Value.is

pub returns-in-Super : goal.returns-in-Super
returns-in-Super c form upper name manifest place =
    let opens = opened c.self.inside c.args.self.now c.self.invariant c.self.view_is in
    let f = found c.args.self.now c.self.inside.nodes.items c.args.number c.index-node.result.now opens
    c.requires c.index-node.ensures in
    let st = stood c.self.inside c.args.self.now c.self.invariant c.self.view_is
    (subst IsUtf8 c.as_str-text.ensures.value c.as_str-text.utf8) form manifest in
    super_answer c.args.self.now c.self.inside.nodes.items opens c.args.number c.index-node.result.now f form
    st upper name place c.in-Super.is

pub returns-in-Header : goal.returns-in-Header
returns-in-Header c form upper name manifest place =
    let opens = opened c.self.inside c.args.self.now c.self.invariant c.self.view_is in
    let f = found c.args.self.now c.self.inside.nodes.items c.args.number c.index-node.result.now opens
    c.requires c.index-node.ensures in
    let st = stood c.self.inside c.args.self.now c.self.invariant c.self.view_is
    (subst IsUtf8 c.as_str-text.ensures.value c.as_str-text.utf8) form manifest in
    header_answer c.args.self.now c.self.inside.nodes.items opens c.args.number c.index-node.result.now f form
    st upper name place c.in-Header.is

pub returns-in-Array : goal.returns-in-Array
returns-in-Array c form upper name manifest place =
    let opens = opened c.self.inside c.args.self.now c.self.invariant c.self.view_is in
    let f = found c.args.self.now c.self.inside.nodes.items c.args.number c.index-node.result.now opens
    c.requires c.index-node.ensures in
    let st = stood c.self.inside c.args.self.now c.self.invariant c.self.view_is
    (subst IsUtf8 c.as_str-text.ensures.value c.as_str-text.utf8) form manifest in
    array_answer c.args.self.now c.self.inside.nodes.items opens c.args.number c.index-node.result.now f form
    st upper name place c.in-Array.is

pub returns-in-Element : goal.returns-in-Element
returns-in-Element c form upper name manifest place =
    let opens = opened c.self.inside c.args.self.now c.self.invariant c.self.view_is in
    let f = found c.args.self.now c.self.inside.nodes.items c.args.number c.index-node.result.now opens
    c.requires c.index-node.ensures in
    let st = stood c.self.inside c.args.self.now c.self.invariant c.self.view_is
    (subst IsUtf8 c.as_str-text.ensures.value c.as_str-text.utf8) form manifest in
    element_answer c.args.self.now c.self.inside.nodes.items opens c.args.number c.index-node.result.now f
    form st upper name place c.in-Element.is

pub returns-in-Some : goal.returns-in-Some
returns-in-Some c form upper name manifest place =
    let opens = opened c.self.inside c.args.self.now c.self.invariant c.self.view_is in
    let f = found c.args.self.now c.self.inside.nodes.items c.args.number c.index-node.result.now opens
    c.requires c.index-node.ensures in
    let st = stood c.self.inside c.args.self.now c.self.invariant c.self.view_is
    (subst IsUtf8 c.as_str-text.ensures.value c.as_str-text.utf8) form manifest in
    only_answer c.args.self.now c.self.inside.nodes.items opens c.args.number c.index-node.result.now f form
    st upper name place c.in-Dotted.is c.in-Some.next
    (c.in-Some.ensures {u = tt})

pub returns-in-None : goal.returns-in-None
returns-in-None c form upper name manifest place =
    let opens = opened c.self.inside c.args.self.now c.self.invariant c.self.view_is in
    let f = found c.args.self.now c.self.inside.nodes.items c.args.number c.index-node.result.now opens
    c.requires c.index-node.ensures in
    let st = stood c.self.inside c.args.self.now c.self.invariant c.self.view_is
    (subst IsUtf8 c.as_str-text.ensures.value c.as_str-text.utf8) form manifest in
    other_answer c.args.self.now c.self.inside.nodes.items opens c.args.number c.index-node.result.now f form
    st upper name place c.in-Dotted.is
    (c.in-None.ensures {u = tt})
