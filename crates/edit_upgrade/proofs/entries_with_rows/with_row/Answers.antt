use Rattle.std.proofs.Common.{◌∙◌, ap, refl, sym}
use Rattle.std.specs.Prelude.{option_and_then}
use Rattle.edit_manifest.specs.EntryViews.{entry_view, read_entry_view}
use Rattle.edit_manifest.specs.declared.entries.found.ReadEntry.{ReadEntry}
use Rattle.edit_upgrade.specs.Records.{row_entry_of}
use Rattle.edit_upgrade.proofs.entries_with_rows.with_row.Goals as goal

pub returns-in-Read : goal.returns-in-Read
returns-in-Read c =
    c.with_record.ensures (entry_view c.args.found) refl refl
    ∙ sym (ap (λ (s : ReadEntry). option_and_then (row_entry_of (entry_view c.args.found)) (read_entry_view s)) c.in-Read.is)
