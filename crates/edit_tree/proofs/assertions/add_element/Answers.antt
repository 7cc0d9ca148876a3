use Rattle.std.proofs.Common.{◌≡◌, ◌<◌, ◌≤◌, length, ◌∙◌, refl, arith, sym}
use Rattle.edit_tree.specs.Nodes.{shape_of}
use Rattle.edit_tree.proofs.ModelTargets.{element_past, deepest, not_deepest, element_stopped, element_done}
use Rattle.edit_tree.proofs.assertions.add_element.Goals as goal

pub returns-then-number-count : goal.returns-then-number-count
returns-then-number-count c = record {
  added = λ text models holds.
      let past : length c.args.nodes.now.items ≤ c.args.number = let k = c.args.nodes.now.ok.0 in
      let n : c.len-count.result ≡ c.args.nodes.now.len = c.len-count.ensures in omega arith in
      element_past c.args.nodes.now.items models c.args.number
      (shape_of text c.args.content) c.args.taken c.args.span holds past;
}

pub returns-then-is_deepest : goal.returns-then-is_deepest
returns-then-is_deepest c = record {
  added = λ text models holds.
      let inside : c.args.number < length c.args.nodes.now.items = let k = c.args.nodes.now.ok.0 in
      let n : c.len-count.result ≡ c.args.nodes.now.len = c.len-count.ensures in omega arith in
      element_stopped c.args.nodes.now.items models c.args.number c.index_mut-node.result.now
      (shape_of text c.args.content) c.args.taken c.args.span holds inside c.index_mut-node.ensures.value
      (deepest c.index_mut-node.result.now.steps (sym c.is_deepest.ensures ∙ c.if-is_deepest.true));
}

pub returns : goal.returns
returns c = record {
  added = λ text models holds.
      element_done c.args.nodes.now.items c.push.new.self.items models c.args.number c.len-count.result
      c.index_mut-node.result.now (record c.index_mut-node.result.now { members = c.push_element.new.self }) _
      c.args.content c.args.taken c.args.span holds
      c.if-number-count.false (c.len-count.ensures ∙ c.args.nodes.now.ok.0) c.index_mut-node.ensures.value
      (not_deepest c.index_mut-node.result.now.steps (sym c.is_deepest.ensures ∙ c.if-is_deepest.false))
      (record {
        content = refl;
        taken = refl;
        steps = refl;
        span = refl;
        entries = (c.in_ok-push_element.ensures {u = tt}).entries text;
        indexed = (c.in_ok-push_element.ensures {u = tt}).indexed text;
        elements = (c.in_ok-push_element.ensures {u = tt}).pushed;
      })
      (record {
        content_is = refl;
        taken_is = refl;
        steps_are = refl;
        span_is = refl;
        empty = c.none.ensures.empty text;
        indexed = c.none.ensures.indexed text;
        none = c.none.ensures.elements;
      })
      (c.in_ok-push.ensures {u = tt}).items;
}
