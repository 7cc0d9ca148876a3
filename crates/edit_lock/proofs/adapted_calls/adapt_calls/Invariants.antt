use Rattle.std.proofs.Common.{◌≡◌, take}
use Rattle.edit_lock.specs.AdaptedCalls.{adapt_calls}
use Rattle.edit_lock.specs.Views.{calls_view, changes_view}
use Rattle.edit_lock.proofs.adapted_calls.adapt_calls.Given as goal

abbrev pub invariant-calls : goal.invariant-calls
invariant-calls l = calls_view l.standing.items
    ≡ adapt_calls (changes_view l.index) l.offline (calls_view (take l.call-index l.calls))
