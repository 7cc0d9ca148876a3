use Rattle.std.proofs.Common.{◌≡◌, drop, map}
use Rattle.std.specs.List.{list_any}
use Rattle.edit_lock_bounds.specs.Views.{candidate_view}
use Rattle.edit_lock_bounds.proofs.corrections.has_chosen.Given as goal

abbrev pub invariant-candidates : goal.invariant-candidates
invariant-candidates l = list_any (λ c. c.is_chosen) (map candidate_view l.candidates)
    ≡ list_any (λ c. c.is_chosen) (map candidate_view (drop l.candidate-index l.candidates))
