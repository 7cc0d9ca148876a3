use Rattle.std.proofs.Common.{ap, map, sym, ◌∙◌}
use Rattle.std.specs.Prelude.{option_map}
use Rattle.edit_manifest.specs.EntryViews.{entry_view}
use Rattle.edit_upgrade.specs.Found.{row_entry_view}
use Rattle.edit_upgrade.specs.Records.{with_row}
use Rattle.edit_upgrade.proofs.Steps.{filtered-none, filtered-some}
use Rattle.edit_upgrade.proofs.entries_with_rows.with_rows.Goals as goal

pub found-preserved-in-Continue-1 : goal.found-preserved-in-Continue-1
found-preserved-in-Continue-1 c =
    filtered-some entry_view with_row row_entry_view c.found.yielded c.in-Some.entry c.found.entries.items
    c.push.new.self.items c.in-Some-with_row.entry
    c.found.invariant (sym c.with_row.ensures ∙ ap (option_map row_entry_view) c.in-Some-with_row.is)
    (c.in_ok-push-in-Some-with_row.ensures {u = tt}).items

pub found-preserved : goal.found-preserved
found-preserved c =
    filtered-none entry_view with_row c.found.yielded c.in-Some.entry
    (map row_entry_view c.found.entries.items) c.found.invariant
    (sym c.with_row.ensures ∙ ap (option_map row_entry_view) c.in-None-with_row.is)
