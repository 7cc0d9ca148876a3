use Rattle.std.proofs.Common.{◌≡◌, map}
use Rattle.std.specs.List.{filter_map}
use Rattle.edit_manifest.specs.EntryViews.{entry_view}
use Rattle.edit_upgrade.specs.Found.{row_entry_view}
use Rattle.edit_upgrade.specs.Records.{with_row}
use Rattle.edit_upgrade.proofs.entries_with_rows.with_rows.Given as goal

abbrev pub invariant-found : goal.invariant-found
invariant-found l = map row_entry_view l.entries.items ≡ filter_map with_row (map entry_view l.yielded)
