use Rattle.std.proofs.Common.{◌<◌, length, arith}
use Rattle.edit_document.specs.Ranges.{edit_views}
use Rattle.edit_upgrade.specs.Found.{row_entry_view}
use Rattle.edit_upgrade.specs.Lines.{line_of}
use Rattle.edit_upgrade.proofs.WriteLemmas.{written-more}
use Rattle.edit_upgrade.proofs.writes.edits_of.Goals as goal

pub rows-preserved : goal.rows-preserved
rows-preserved c =
    let below : c.rows.i < length c.args.entries.now = omega arith in
    written-more row_entry_view line_of c.args.entries.now c.args.rows.now c.rows.i c.index-entries-i.result
    c.index-rows-i.result
    (edit_views c.rows.edits.items) (edit_views c.push_edit.new.edits.items) c.requires c.rows-test.true below
    c.index-entries-i.is c.index-rows-i.is c.rows.invariant c.in_ok-push_edit.ensures.ok
