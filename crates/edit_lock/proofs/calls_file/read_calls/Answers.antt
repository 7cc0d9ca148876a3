use Rattle.std.proofs.Common.{◌∙◌, [], Bor, List, ℕ, ap, map}
use Rattle.std.proofs.lemmas.Result.{IfOk-weaker}
use Rattle.edit_lock.specs.CallsFile.{calls_behind}
use Rattle.edit_lock.proofs.CallLemmas.{all-calls}
use Rattle.edit_lock.proofs.calls_file.read_calls.Goals as goal

pub returns-clause-read : goal.returns-clause-read
returns-clause-read c =
    IfOk-weaker c.calls_of.result _ _
    (λ v seen.
    seen ∙ ap (λ (ls : List (Bor (List ℕ))). calls_behind []
    (map (λ line. line.now) ls)) c.deref.ensures.value
    ∙ ap (calls_behind []) c.in_ok-lines.ensures)
    c.calls_of.ensures

pub returns-clause-written : goal.returns-clause-written
returns-clause-written c =
    IfOk-weaker c.calls_of.result _ _
    (λ v seen calls texts are.
    seen ∙ ap (λ (ls : List (Bor (List ℕ))). calls_behind []
    (map (λ line. line.now) ls)) c.deref.ensures.value
    ∙ ap (calls_behind []) (c.in_ok-lines.ensures ∙ are) ∙ all-calls calls texts)
    c.calls_of.ensures
