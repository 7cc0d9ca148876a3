use Rattle.std.proofs.Common.{◌≡◌, map, take}
use Rattle.edit_document.specs.Ranges.{edit_views}
use Rattle.edit_upgrade.specs.Found.{row_entry_view}
use Rattle.edit_upgrade.specs.Lines.{line_of}
use Rattle.edit_upgrade.specs.Rows.{writes}
use Rattle.edit_upgrade.proofs.writes.edits_of.Given as goal

abbrev pub invariant-rows : goal.invariant-rows
invariant-rows l = edit_views l.edits.items
    ≡ writes (map row_entry_view (take l.i l.entries)) (map line_of (take l.i l.rows))
