use Rattle.std.proofs.Common.{◌≡◌, map, take}
use Rattle.std.specs.List.{filter_map}
use Rattle.edit_lock_bounds.specs.Corrections.{correction_by}
use Rattle.edit_lock_bounds.specs.CorrectionViews.{corrections_view}
use Rattle.edit_lock_bounds.specs.Views.{borrowed_package, known_in}
use Rattle.edit_lock_bounds.proofs.corrections.corrections_for.Given as goal

abbrev pub invariant-packages : goal.invariant-packages
invariant-packages l = corrections_view l.corrections.items
    ≡ filter_map (λ p. correction_by (known_in l.facts p.name) p)
    (map borrowed_package (take l.locked-index l.packages))
