use Rattle.std.proofs.Common.{◌≡◌, ℕ, List, Option, Some, None, Bool, true, false, sym, ap, ◌∙◌, subst}
use Rattle.std.specs.Prelude.{IfOk}
use Rattle.edit_tree.specs.declared.nodes.Node.{Node}
use Rattle.edit_tree.specs.Nodes.{ModelNode, bytes_of, shape_of, RepresentsNodes}
use Rattle.edit_tree.specs.Walk.{child, node_extended}
use Rattle.edit_tree.specs.WalkState.{HasNodes, HasNodeAt}
use Rattle.edit_tree.proofs.KeyFronts.{asserted_new, asserted_again, asserted_refused}
use Rattle.edit_tree.proofs.assertions.assert_member.Goals as goal

pub returns-in_default : goal.returns-in_default
returns-in_default c = record {
  made = λ models holds.
      let text = c.args.text.now in
      let seen : RepresentsNodes text c.deref.result.now models = subst (λ (ns : List Node). RepresentsNodes text ns models)
      (sym c.deref.ensures.value) holds in
      let none : child models c.args.number (bytes_of text c.args.name) ≡ None =
      ap (child models c.args.number) (sym c.decoded_str.ensures) ∙ sym (c.find.ensures models seen) ∙
      c.in_default.is in
      subst (λ (o : Option (List ModelNode × ℕ)). IfOk c.add.result (HasNodeAt text c.add.new.nodes.items o))
      (sym (asserted_new models c.args.number (bytes_of text c.args.name)
      (shape_of text c.args.definition.content) c.args.definition.taken c.args.definition.span none))
      (c.add.ensures.added models holds none);
}

pub returns-then-not-extend_node : goal.returns-then-not-extend_node
returns-then-not-extend_node c = record {
  made = λ models holds.
      let text = c.args.text.now in
      let seen : RepresentsNodes text c.deref.result.now models = subst (λ (ns : List Node). RepresentsNodes text ns models)
      (sym c.deref.ensures.value) holds in
      let seen2 : RepresentsNodes text c.deref-2.result.now models = subst (λ (ns : List Node). RepresentsNodes text ns models)
      (sym c.deref-2.ensures.value) holds in
      let some : child models c.args.number (bytes_of text c.args.name) ≡ Some c.in-Some.member =
      ap (child models c.args.number) (sym c.decoded_str.ensures) ∙ sym (c.find.ensures models seen) ∙
      c.in-Some.is in
      let adds : HasNodes text c.extend_node.new.nodes.items
      (node_extended models c.target-place.result c.args.definition.taken) false =
      subst (λ (b : Bool). HasNodes text c.extend_node.new.nodes.items
      (node_extended models c.target-place.result c.args.definition.taken) b) c.if-not-extend_node.true
      (c.extend_node.ensures text models holds) in
      asserted_refused models c.args.number c.in-Some.member c.target-place.result (bytes_of text c.args.name)
      (shape_of text c.args.definition.content) c.args.definition.taken c.args.definition.span some
      (c.target-place.ensures text models seen2) adds;
}

pub returns : goal.returns
returns c = record {
  made = λ models holds.
      let text = c.args.text.now in
      let seen : RepresentsNodes text c.deref.result.now models = subst (λ (ns : List Node). RepresentsNodes text ns models)
      (sym c.deref.ensures.value) holds in
      let seen2 : RepresentsNodes text c.deref-2.result.now models = subst (λ (ns : List Node). RepresentsNodes text ns models)
      (sym c.deref-2.ensures.value) holds in
      let some : child models c.args.number (bytes_of text c.args.name) ≡ Some c.in-Some.member =
      ap (child models c.args.number) (sym c.decoded_str.ensures) ∙ sym (c.find.ensures models seen) ∙
      c.in-Some.is in
      let adds : HasNodes text c.extend_node.new.nodes.items
      (node_extended models c.target-place.result c.args.definition.taken) true =
      subst (λ (b : Bool). HasNodes text c.extend_node.new.nodes.items
      (node_extended models c.target-place.result c.args.definition.taken) b) c.if-not-extend_node.false
      (c.extend_node.ensures text models holds) in
      asserted_again text c.extend_node.new.nodes.items models c.args.number c.in-Some.member
      c.target-place.result (bytes_of text c.args.name)
      (shape_of text c.args.definition.content) c.args.definition.taken c.args.definition.span some
      (c.target-place.ensures text models seen2) adds;
}
