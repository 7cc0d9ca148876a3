use Rattle.std.proofs.Common.{sym, ap, ◌∙◌}
use Rattle.edit_tree.specs.declared.nodes.DefinedBy.{DefinedBy}
use Rattle.edit_tree.specs.Walk.{target_of}
use Rattle.edit_tree.proofs.ModelTargets.{target_other}
use Rattle.edit_tree.proofs.assertions.target.Goals as goal

pub returns-in_default : goal.returns-in_default
returns-in_default c text models holds =
    sym (target_other models c.args.number c.args.taken c.in_default.not-Super)

pub returns-in-Super : goal.returns-in-Super
returns-in-Super c text models holds = c.last_element.ensures text models holds ∙
    ap (λ (t : DefinedBy). target_of models c.args.number t) (sym c.in-Super.is)
