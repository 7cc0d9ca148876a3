use Rattle.std.proofs.Common.{◌≡◌, map, not, option_map, take}
use Rattle.std.specs.Prelude.{◌||◌}
use Rattle.edit_lock_bounds.specs.Choices.{greatest}
use Rattle.edit_lock_bounds.specs.Views.{candidate_view}
use Rattle.edit_lock_bounds.proofs.greatest.greatest.Given as goal

abbrev pub invariant-candidates : goal.invariant-candidates
invariant-candidates l = option_map (λ c. candidate_view c.now) l.best
    ≡ greatest (λ c. not l.only_chosen || c.is_chosen) (map candidate_view (take l.candidate-index l.candidates))
