use Rattle.std.proofs.lemmas.Result.{IfOk-weaker}
use Rattle.edit_tree.proofs.members.Members.push_element.Goals as goal

-- src/members.rt:207:5
pub returns-clause-indexed : goal.returns-clause-indexed
returns-clause-indexed c =
    IfOk-weaker c.put_elements.result _ _
    (λ x h. λ text was. h text ((c.in_ok-elements.ensures {u = tt}).indexed text was)) c.put_elements.ensures.indexed
