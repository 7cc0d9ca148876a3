use Rattle.std.proofs.Common.{sym, subst}
use Rattle.edit_tree.specs.Nodes.{shape_of}
use Rattle.edit_tree.specs.Walk.{value_added_at, value_added}
use Rattle.edit_tree.specs.WalkState.{HasNextState}
use Rattle.edit_tree.proofs.WalkSteps.{goes_settled}
use Rattle.edit_tree.proofs.walk.Walk.add_value.Goals as goal

pub returns-clause-goes : goal.returns-clause-goes
returns-clause-goes c st w =
    let text = c.args.text.now in
    let shape = shape_of text c.args.content in
    subst (HasNextState text c.add_value_at.new.self (value_added st shape c.args.span)) (sym c.is_some.ensures)
    (goes_settled text c.add_value_at.new.self (value_added_at st shape c.args.span) c.in_ok-add_value_at.field-0
    ((c.in_ok-add_value_at.ensures {u = tt}).goes st w))
