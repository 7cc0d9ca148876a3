use Rattle.std.proofs.Common.{◌≡◌, map, take}
use Rattle.std.specs.List.{filter_map}
use Rattle.edit_lock_bounds.specs.Choices.{candidate_of}
use Rattle.edit_lock_bounds.specs.Views.{candidate_view, known_in, texts_view, wanted_view}
use Rattle.edit_lock_bounds.proofs.candidates.candidates_among.Given as goal

abbrev pub invariant-texts : goal.invariant-texts
invariant-texts l = map candidate_view l.candidates.items
    ≡ filter_map (candidate_of (map (λ r. wanted_view r.now) l.requirements) (known_in l.facts l.name).chosen)
    (texts_view (take l.text-index l.texts))
