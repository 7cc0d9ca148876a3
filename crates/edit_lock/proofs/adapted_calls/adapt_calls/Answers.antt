use Rattle.std.proofs.Common.{◌≡◌, ◌∙◌, List, String, Vec, Global, ap, rules, take}
use Rattle.std.proofs.Math.Seq.{take-length}
use Rattle.std.proofs.lemmas.List.Elements.{All-same}
use Rattle.edit_lock.specs.ValidCalls.{IsValidCall}
use Rattle.edit_lock.specs.AdaptedCalls.{Changes, changes, adapt_calls}
use Rattle.edit_lock.specs.Views.{calls_view, changes_view, lock_view}
use Rattle.edit_lock.proofs.RightLemmas.{calls-right}
use Rattle.edit_lock.proofs.adapted_calls.adapt_calls.Goals as goal

pub returns-clause-right : goal.returns-clause-right
returns-clause-right c =
    let before = lock_view c.args.before.now in
    let now = lock_view c.args.now.now in
    let given = calls_view c.args.calls.now in
    let all : take c.calls.call-index c.args.calls.now ≡ c.args.calls.now
    = search (rules, take-length c.args.calls.now) in
    let made : calls_view c.calls.standing.items ≡ adapt_calls (changes before now) c.args.offline given
    = c.calls.invariant
    ∙ ap (λ (cs : List (Vec (String Global) Global)).
    adapt_calls (changes_view c.in_ok-index.index) c.args.offline (calls_view cs)) all
    ∙ ap (λ (seen : Changes). adapt_calls seen c.args.offline given) c.in_ok-index.ensures in
    All-same (IsValidCall now) (calls_view c.calls.standing.items)
    (adapt_calls (changes before now) c.args.offline given) made
    (calls-right before now c.args.offline given)
