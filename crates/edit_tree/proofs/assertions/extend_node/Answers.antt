use Rattle.std.proofs.Common.{◌≡◌, ◌<◌, ◌≤◌, length, sym, ◌∙◌, arith}
use Rattle.edit_tree.proofs.ModelNodes.{again_past, again_stopped, again_done}
use Rattle.edit_tree.proofs.assertions.extend_node.Goals as goal

pub returns-then-number-len : goal.returns-then-number-len
returns-then-number-len c text models holds =
    let past : length c.args.nodes.now.items ≤ c.args.number = let k = c.args.nodes.now.ok.0 in
    let n : c.len.result ≡ c.args.nodes.now.len = c.len.ensures in omega arith in
    again_past c.args.nodes.now.items models c.args.number c.args.taken holds past

pub returns-then-not-can_extend : goal.returns-then-not-can_extend
returns-then-not-can_extend c text models holds =
    let inside : c.args.number < length c.args.nodes.now.items = let k = c.args.nodes.now.ok.0 in
    let n : c.len.result ≡ c.args.nodes.now.len = c.len.ensures in omega arith in
    again_stopped c.args.nodes.now.items models c.args.number c.index.result.now c.args.taken holds inside
    c.index.ensures (sym c.can_extend.ensures ∙ c.if-not-can_extend.true)

pub returns : goal.returns
returns c text models holds =
    let inside : c.args.number < length c.args.nodes.now.items = let k = c.args.nodes.now.ok.0 in
    let n : c.len.result ≡ c.args.nodes.now.len = c.len.ensures in omega arith in
    again_done c.args.nodes.now.items models c.args.number c.index.result.now c.index_mut-node.result.now
    c.args.taken c.merged_definition-node.result holds inside c.index.ensures c.index_mut-node.ensures.value
    (sym c.can_extend.ensures ∙ c.if-not-can_extend.false) c.merged_definition-node.ensures
