use Rattle.std.proofs.Common.{◌≡◌, length, map, true}
use Rattle.std.specs.Prelude.{Ok}
use Rattle.edit_lookups.specs.Lookups.{lookup_text}
use Rattle.edit_answers.specs.Changes.{Changes}
use Rattle.edit_answers.specs.OutcomeRules.{AllFollow}
use Rattle.edit_answers.specs.Outcomes.{PutsOne, PutsSome}
use Rattle.edit_answers.proofs.lookups.settle_all.Given as goal

-- the results of the lookups so far, the writes for them, and that they follow from the outcomes
abbrev pub invariant-loop-i : goal.invariant-loop-i
invariant-loop-i g l =
    (length l.outcomes.items ≡ l.i)
    × Changes (PutsOne l.places (map lookup_text l.lookups)) (PutsSome l.places (map lookup_text l.lookups))
    (g.S.Store.view l.fn.files) (g.S.Store.view l.files) (Ok l.outcomes.items)
    × ((g.S.Store.view l.fn.files).tells ≡ true → AllFollow l.places
    (map lookup_text l.lookups) l.offline l.answers
    (g.S.Store.view l.fn.files).file_at (g.S.Store.view l.files).file_at l.outcomes.items)
