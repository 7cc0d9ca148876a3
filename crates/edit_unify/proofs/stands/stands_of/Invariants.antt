use Rattle.std.proofs.Common.{◌≡◌, map, option_map}
use Rattle.edit_unify.specs.Stands.{stand_view}
use Rattle.edit_unify.proofs.StandLemmas.{stand_beside}
use Rattle.edit_unify.proofs.stands.stands_of.Given as goal

-- what the pairs so far require
abbrev pub invariant-rows : goal.invariant-rows
invariant-rows l = map (option_map stand_view) l.stands.items
    ≡ map stand_beside (map (λ p. (p.0.now, p.1.now)) l.yielded)
