use Rattle.std.proofs.Common.{◌≡◌, drop, map}
use Rattle.edit_lock_bounds.specs.Changes.{is_among}
use Rattle.edit_lock_bounds.specs.Views.{borrowed_package, package_view}
use Rattle.edit_lock_bounds.proofs.changes.is_among.Given as goal

abbrev pub invariant-packages : goal.invariant-packages
invariant-packages l = is_among (map borrowed_package l.packages) (package_view l.locked)
    ≡ is_among (map borrowed_package (drop l.other-index l.packages)) (package_view l.locked)
