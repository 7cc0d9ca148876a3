use Rattle.std.proofs.Common.{◌≡◌, drop, map}
use Rattle.semver.specs.Identifiers.{parts_of}
use Rattle.edit_lock_bounds.specs.Choices.{are_met}
use Rattle.edit_lock_bounds.specs.Views.{wanted_view}
use Rattle.edit_lock_bounds.proofs.candidates.are_met.Given as goal

abbrev pub invariant-requirements : goal.invariant-requirements
invariant-requirements l = are_met (map (λ r. wanted_view r.now) l.requirements) (parts_of l.version)
    ≡ are_met (map (λ r. wanted_view r.now) (drop l.requirement-index l.requirements)) (parts_of l.version)
