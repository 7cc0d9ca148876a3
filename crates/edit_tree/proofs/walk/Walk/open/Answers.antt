use Rattle.std.proofs.Common.{Some, refl, subst}
use Rattle.edit_tree.specs.Nodes.{shape_of}
use Rattle.edit_tree.specs.Walk.{value_added_at}
use Rattle.edit_tree.specs.WalkState.{HasDefinedState}
use Rattle.edit_tree.proofs.WalkSteps.{goes_opened, opened_refused}
use Rattle.edit_tree.proofs.walk.Walk.open.Goals as goal

pub returns-clause-goes : goal.returns-clause-goes
returns-clause-goes c st w =
    let text = c.args.text.now in
    goes_opened text c.add_value_at.new.self _ st (shape_of text c.args.content)
    (Some c.args.span) c.in-Some.number
    (subst (HasDefinedState text c.add_value_at.new.self
    (value_added_at st (shape_of text c.args.content) (Some c.args.span))) c.in-Some.is
    ((c.in_ok-number.ensures {u = tt}).goes st w)) refl (c.in_ok-push.ensures {u = tt}).items refl refl

pub returns-in_default-clause-goes : goal.returns-in_default-clause-goes
returns-in_default-clause-goes c st w =
    let text = c.args.text.now in
    opened_refused text c.add_value_at.new.self st (shape_of text c.args.content) (Some c.args.span)
    (subst (HasDefinedState text c.add_value_at.new.self
    (value_added_at st (shape_of text c.args.content) (Some c.args.span))) c.in_default.is
    ((c.in_ok-number.ensures {u = tt}).goes st w))
