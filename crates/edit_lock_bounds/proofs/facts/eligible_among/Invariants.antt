use Rattle.std.proofs.Common.{◌≡◌, drop, map}
use Rattle.edit_lock_bounds.specs.Corrections.{eligible_among}
use Rattle.edit_lock_bounds.specs.Views.{borrowed_text, crate_view}
use Rattle.edit_lock_bounds.proofs.facts.eligible_among.Given as goal

abbrev pub invariant-crates : goal.invariant-crates
invariant-crates l = eligible_among (map (λ c. crate_view c.now) l.crates) (borrowed_text l.source)
    ≡ eligible_among (map (λ c. crate_view c.now) (drop l.versions-index l.crates)) (borrowed_text l.source)
