use Rattle.std.proofs.Common.{◌≡◌, map, take}
use Rattle.semver.specs.Identifiers.{parts_of}
use Rattle.edit_lock_bounds.specs.Choices.{met_requirements}
use Rattle.edit_lock_bounds.specs.Views.{borrowed_text, wanted_view}
use Rattle.edit_lock_bounds.proofs.candidates.met_requirements.Given as goal

abbrev pub invariant-requirements : goal.invariant-requirements
invariant-requirements l = map (λ r. wanted_view r.now) l.met.items
    ≡ met_requirements (map wanted_view (take l.requirement-index l.requirements)) (borrowed_text l.source)
    (parts_of l.current)
