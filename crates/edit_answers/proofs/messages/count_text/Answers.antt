use Rattle.std.proofs.Common.{◌≡◌, IfOk, string_bytes, subst}
use Rattle.std.specs.Fmt.{decimal}
use Rattle.edit_answers.proofs.messages.count_text.Goals as goal

pub returns : goal.returns
returns c =
    subst (λ n. IfOk c.number_text.result (λ s. string_bytes s ≡ decimal n)) c.count_of-count.ensures
    c.number_text.ensures
