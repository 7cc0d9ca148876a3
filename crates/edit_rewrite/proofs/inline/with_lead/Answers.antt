use Rattle.std.proofs.Common.{ℕ, List, ◌++◌, ap, ◌∙◌}
use Rattle.std.proofs.lemmas.Result.{IfOk-weaker}
use Rattle.edit_tree.specs.EditBytes.{put_before, with_splice}
use Rattle.edit_rewrite.proofs.inline.with_lead.Goals as goal

pub returns-clause-text : goal.returns-clause-text
returns-clause-text c rest at is =
    let now = c.as_str.ensures.value ∙ (c.in_ok-push_str.ensures {u = tt}).bytes
    ∙ ap (λ (l : List ℕ). l ++ c.args.member.now) (c.in_ok-now.ensures {u = tt}).ok in
    IfOk-weaker c.with_text.result _ _
    (λ s e. e ∙ ap (λ (l : List ℕ). with_splice c.args.text.now (put_before rest l)) now)
    (c.with_text.ensures.text rest at is)
