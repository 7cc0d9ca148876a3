use Rattle.std.proofs.Common.{◌≡◌, [], map, take}
use Rattle.edit_lock_bounds.specs.LookupViews.{AreSeen, lookups_view}
use Rattle.edit_lock_bounds.specs.Lookups.{with_lookups}
use Rattle.edit_lock_bounds.specs.Views.{borrowed_package}
use Rattle.edit_lock_bounds.proofs.lookups.lookups_for.Given as goal

abbrev pub invariant-packages : goal.invariant-packages
invariant-packages l = record {
  seen : AreSeen l.seen (lookups_view l.lookups.items);
  made : lookups_view l.lookups.items ≡ with_lookups [] (map borrowed_package (take l.locked-index l.packages));
}
