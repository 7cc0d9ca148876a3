use Rattle.std.proofs.Common.{◌≡◌, map, take}
use Rattle.std.specs.List.{filter}
use Rattle.edit_lock_bounds.specs.Views.{borrowed_package, is_changed_in, packages_view}
use Rattle.edit_lock_bounds.proofs.changes.changed_since.Given as goal

abbrev pub invariant-packages : goal.invariant-packages
invariant-packages l = map borrowed_package l.changed.items
    ≡ filter (is_changed_in l.history) (packages_view (take l.locked-index l.packages))
