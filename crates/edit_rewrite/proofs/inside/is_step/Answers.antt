use Rattle.std.proofs.Common.{◌≡◌, ℕ, List, string_bytes, sym, ap, ◌∙◌}
use Rattle.edit_tree.specs.declared.place.Step.{Step}
use Rattle.edit_tree.specs.Assertions.{key, same_bytes, same_step}
use Rattle.edit_document.specs.Items.{step_view}
use Rattle.edit_rewrite.proofs.SlotKeys.{same_bytes_swapped}
use Rattle.edit_rewrite.proofs.inside.is_step.Goals as goal

pub returns-in_ok-decoded-in-Key : goal.returns-in_ok-decoded-in-Key
returns-in_ok-decoded-in-Key c name h =
    let key_name = c.decoded_str.result.now in
    let said : key_name ≡ name = c.decoded_str.ensures ∙ (c.in_ok-decoded-in-Key.ensures {u = tt}).says name h in
    c.eq.ensures ∙ same_bytes_swapped key_name c.as_str.result.now
    ∙ ap (λ (x : List ℕ). same_bytes x key_name) c.as_str.ensures.value
    ∙ ap (λ (x : List ℕ). same_bytes (string_bytes c.in-Key.key) x) said
    ∙ ap (λ (s : Step). same_step (step_view s) (key name)) (sym c.in-Key.is)
