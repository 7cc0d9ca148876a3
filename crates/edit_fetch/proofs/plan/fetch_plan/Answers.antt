use Rattle.std.proofs.Common.{Some, ◌∙◌, ap}
use Rattle.edit_fetch.proofs.plan.fetch_plan.Goals as goal

pub returns-in-Ok-clause-copied : goal.returns-in-Ok-clause-copied
returns-in-Ok-clause-copied g c = λ tells.
    c.in-Ok.ensures.written tells ∙ ap (λ t. Some t) c.as_bytes.ensures.value
