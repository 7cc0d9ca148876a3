use Rattle.std.proofs.Common.{sym, ◌∙◌}
use Rattle.edit_tree.proofs.ModelNodes.{model_at, child_past, child_found}
use Rattle.edit_tree.proofs.assertions.find.Goals as goal

pub returns-then-number-nodes : goal.returns-then-number-nodes
returns-then-number-nodes c models holds =
    sym (child_past c.args.nodes.now models c.args.number c.args.name.now holds c.if-number-nodes.true)

pub returns : goal.returns
returns c models holds =
    let has_model = model_at c.args.nodes.now models c.args.number c.index-nodes-number.result holds
    c.if-number-nodes.false c.index-nodes-number.is in
    c.get.ensures has_model.keeps.indexed ∙
    sym (child_found c.args.nodes.now models c.args.number c.index-nodes-number.result c.args.name.now holds
    c.if-number-nodes.false c.index-nodes-number.is)
