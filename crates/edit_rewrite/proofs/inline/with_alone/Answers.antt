use Rattle.std.proofs.Common.{ℕ, List, ◌++◌, ap, ◌∙◌, append_assoc}
use Rattle.std.specs.Prelude.{codes}
use Rattle.std.proofs.lemmas.Result.{IfOk-weaker}
use Rattle.edit_tree.specs.EditBytes.{with_splice}
use Rattle.edit_rewrite.proofs.inline.with_alone.Goals as goal

pub returns-clause-text : goal.returns-clause-text
returns-clause-text c s t at_s at_t is_s is_t =
    let member = c.args.member.now in
    let now = c.as_str.ensures.value ∙ (c.in_ok-push_str-2.ensures {u = tt}).bytes
    ∙ ap (λ (l : List ℕ). l ++ codes " ") ((c.in_ok-push_str.ensures {u = tt}).bytes
    ∙ ap (λ (l : List ℕ). l ++ member) (c.in_ok-now.ensures {u = tt}).ok)
    ∙ append_assoc (codes " ") member (codes " ") in
    IfOk-weaker c.with_swap.result _ _
    (λ r e. e ∙ ap (λ (l : List ℕ). with_splice c.args.text.now (record { from = s; to = t; now = l })) now)
    (c.with_swap.ensures.text s t at_s at_t is_s is_t)
