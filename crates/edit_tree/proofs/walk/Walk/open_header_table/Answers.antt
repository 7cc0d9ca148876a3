use Rattle.std.proofs.Common.{None, subst}
use Rattle.edit_tree.specs.declared.nodes.DefinedBy.TheVariants.{Super, Header}
use Rattle.edit_tree.specs.Nodes.{section}
use Rattle.edit_tree.specs.Walk.{pending_defined}
use Rattle.edit_tree.specs.WalkState.{HasDefinedState}
use Rattle.edit_tree.proofs.WalkSteps.{goes_headed, headed_refused}
use Rattle.edit_tree.proofs.walk.Walk.open_header_table.Goals as goal

pub returns-in_default-clause-goes : goal.returns-in_default-clause-goes
returns-in_default-clause-goes c st w =
    let text = c.args.text.now in
    headed_refused text c.define_pending.new.self st
    (subst (HasDefinedState text c.define_pending.new.self (pending_defined st 0 Super section Header None)) c.in_default.is
    ((c.in_ok-number.ensures {u = tt}).goes st w))

pub returns-clause-goes : goal.returns-clause-goes
returns-clause-goes c st w =
    let text = c.args.text.now in
    goes_headed text c.define_pending.new.self c.open_only.new.self st c.in-Some.number
    (subst (HasDefinedState text c.define_pending.new.self (pending_defined st 0 Super section Header None)) c.in-Some.is
    ((c.in_ok-number.ensures {u = tt}).goes st w)) ((c.in_ok-open_only.ensures {u = tt}).turned text)
