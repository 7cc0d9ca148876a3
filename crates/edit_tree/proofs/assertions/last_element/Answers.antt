use Rattle.std.proofs.Common.{ℕ, Option, sym, ap, ◌∙◌}
use Rattle.std.specs.Prelude.{unwrap_or}
use Rattle.edit_tree.proofs.ModelTargets.{target_past, target_found}
use Rattle.edit_tree.proofs.assertions.last_element.Goals as goal

pub returns-then-number-nodes : goal.returns-then-number-nodes
returns-then-number-nodes c text models holds =
    sym (target_past c.args.nodes.now models c.args.number holds c.if-number-nodes.true)

pub returns : goal.returns
returns c text models holds =
    c.unwrap_or.ensures ∙ ap (λ (o : Option ℕ). unwrap_or o c.args.number) (c.last_table.ensures text)
    ∙ sym (target_found c.args.nodes.now models c.args.number c.index-nodes-number.result holds
    c.if-number-nodes.false c.index-nodes-number.is)
