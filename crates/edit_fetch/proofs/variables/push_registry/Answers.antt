use Rattle.edit_fetch.proofs.VariableLemmas.{four_parts}
use Rattle.edit_fetch.specs.Variables.{registry_line}
use Rattle.edit_fetch.proofs.variables.push_registry.Goals as goal

pub returns : goal.returns
unfolding registry_line
returns c = four_parts _ _ _ _ _ _ _ _ _ c.in_ok-extend_from_slice.ensures.items
    c.in_ok-extend_from_slice-2.ensures.items c.in_ok-extend_from_slice-3.ensures.items
    c.in_ok-push_value_line.ensures
