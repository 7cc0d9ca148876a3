use Rattle.std.proofs.Common.{None, refl, subst}
use Rattle.edit_tree.specs.declared.nodes.DefinedBy.TheVariants.{Super, Array, Element}
use Rattle.edit_tree.specs.Nodes.{section, sections}
use Rattle.edit_tree.specs.Walk.{pending_defined, element_added}
use Rattle.edit_tree.specs.WalkState.{HasNodeAt, HasDefinedState}
use Rattle.edit_tree.proofs.WalkSteps.{goes_element, element_unheaded, element_refused}
use Rattle.edit_tree.proofs.walk.Walk.open_array_table.Goals as goal

pub returns-clause-goes : goal.returns-clause-goes
returns-clause-goes c st w =
    let text = c.args.text.now in
    let middle = c.define_pending.new.self in
    goes_element text middle c.open_only.new.self
    (record {
      nodes = c.add_element.new.nodes;
      tables = middle.tables;
      fronts = middle.fronts;
      name = middle.name;
    }) st c.in-Some.number c.in-Some-2.element
    (subst (HasDefinedState text middle (pending_defined st 0 Super sections Array None)) c.in-Some.is
    ((c.in_ok-number.ensures {u = tt}).goes st w))
    (λ models holds. subst
    (HasNodeAt text c.add_element.new.nodes.items (element_added models c.in-Some.number section Element None))
    c.in-Some-2.is ((c.in_ok-element.ensures {u = tt}).added text models holds)) refl refl refl
    ((c.in_ok-open_only.ensures {u = tt}).turned text)

pub returns-in_default-clause-goes : goal.returns-in_default-clause-goes
returns-in_default-clause-goes c st w =
    let text = c.args.text.now in
    element_unheaded text c.define_pending.new.self st
    (subst (HasDefinedState text c.define_pending.new.self (pending_defined st 0 Super sections Array None)) c.in_default.is
    ((c.in_ok-number.ensures {u = tt}).goes st w))

pub returns-in_default-2-clause-goes : goal.returns-in_default-2-clause-goes
returns-in_default-2-clause-goes c st w =
    let text = c.args.text.now in
    element_refused text c.define_pending.new.self c.add_element.new.nodes.items st c.in-Some.number
    (subst (HasDefinedState text c.define_pending.new.self (pending_defined st 0 Super sections Array None)) c.in-Some.is
    ((c.in_ok-number.ensures {u = tt}).goes st w))
    (λ models holds. subst
    (HasNodeAt text c.add_element.new.nodes.items (element_added models c.in-Some.number section Element None))
    c.in_default-2.is ((c.in_ok-element.ensures {u = tt}).added text models holds))
