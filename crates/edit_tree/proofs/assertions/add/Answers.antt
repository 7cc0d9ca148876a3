use Rattle.std.proofs.Common.{◌≡◌, ◌<◌, ◌≤◌, length, ◌∙◌, refl, arith, sym}
use Rattle.edit_tree.specs.Nodes.{bytes_of, shape_of}
use Rattle.edit_tree.proofs.ModelNodes.{model_at, child_found}
use Rattle.edit_tree.proofs.ModelTargets.{added_past, deepest, not_deepest, add_stopped, add_done}
use Rattle.edit_tree.proofs.assertions.add.Goals as goal

pub returns-then-number-count : goal.returns-then-number-count
returns-then-number-count c = record {
  added = λ models holds none.
      let text = c.args.text.now in
      let past : length c.args.nodes.now.items ≤ c.args.number = let k = c.args.nodes.now.ok.0 in
      let n : c.len-count.result ≡ c.args.nodes.now.len = c.len-count.ensures in omega arith in
      added_past c.args.nodes.now.items models c.args.number (bytes_of text c.args.name)
      (shape_of text c.args.definition.content) c.args.definition.taken c.args.definition.span holds past;
}

pub returns-then-is_deepest : goal.returns-then-is_deepest
returns-then-is_deepest c = record {
  added = λ models holds none.
      let text = c.args.text.now in
      let inside : c.args.number < length c.args.nodes.now.items = let k = c.args.nodes.now.ok.0 in
      let n : c.len-count.result ≡ c.args.nodes.now.len = c.len-count.ensures in omega arith in
      add_stopped c.args.nodes.now.items models c.args.number c.index_mut-node.result.now
      (bytes_of text c.args.name) (shape_of text c.args.definition.content) c.args.definition.taken c.args.definition.span holds inside
      c.index_mut-node.ensures.value
      (deepest c.index_mut-node.result.now.steps (sym c.is_deepest.ensures ∙ c.if-is_deepest.true));
}

pub returns : goal.returns
returns c = record {
  added = λ models holds none.
      let text = c.args.text.now in
      let inside : c.args.number < length c.args.nodes.now.items = let k = c.args.nodes.now.ok.0 in
      let n : c.len-count.result ≡ c.args.nodes.now.len = c.len-count.ensures in
      let l = c.if-number-count.false in omega arith in
      let has_model = model_at c.args.nodes.now.items models c.args.number c.index_mut-node.result.now holds inside
      c.index_mut-node.ensures.value in
      let absent = sym (child_found c.args.nodes.now.items models c.args.number c.index_mut-node.result.now
      (bytes_of text c.args.name) holds inside c.index_mut-node.ensures.value) ∙ none in
      add_done c.args.nodes.now.items c.push.new.self.items models c.args.number c.len-count.result
      c.index_mut-node.result.now (record c.index_mut-node.result.now { members = c.insert.new.self }) _
      (bytes_of text c.args.name) c.args.definition.content c.args.definition.taken c.args.definition.span holds
      c.if-number-count.false (c.len-count.ensures ∙ c.args.nodes.now.ok.0) c.index_mut-node.ensures.value
      (not_deepest c.index_mut-node.result.now.steps (sym c.is_deepest.ensures ∙ c.if-is_deepest.false))
      (record {
        content = refl;
        taken = refl;
        steps = refl;
        span = refl;
        elements = (c.in_ok-insert.ensures {u = tt}).elements;
        entries = (c.in_ok-insert.ensures {u = tt}).added;
        indexed = (c.in_ok-insert.ensures {u = tt}).indexed has_model.keeps.indexed absent;
      })
      (record {
        content_is = refl;
        taken_is = refl;
        steps_are = refl;
        span_is = refl;
        empty = c.none.ensures.empty text;
        indexed = c.none.ensures.indexed text;
        none = c.none.ensures.elements;
      })
      (c.in_ok-push.ensures {u = tt}).items;
}
