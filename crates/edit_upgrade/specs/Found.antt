-- The entries that get a row, over the program's types.
use Rattle.std.specs.Prelude.{option_map, string_bytes}
use Rattle.edit_document.specs.Items.{place_view}
use Rattle.edit_manifest.specs.EntryViews.{literal_by}
use Rattle.edit_upgrade.specs.Records as entry
use Rattle.edit_upgrade.specs.Records.{RowEntry, at_folder, at_registry, at_repository}
use Rattle.edit_upgrade.specs.declared.entries_with_rows.Entry.{Entry}
use Rattle.edit_upgrade.specs.declared.entries_with_rows.Source.{Source}
use Rattle.edit_upgrade.specs.declared.entries_with_rows.Source.TheVariants.{Git, Path, Registry}

-- the source of an entry, by its texts (own)
abbrev pub source_view : Source → entry.Source
source_view (Registry named) = at_registry (option_map string_bytes named)
source_view Git = at_repository
source_view Path = at_folder

-- an entry, by its texts (own)
abbrev pub row_entry_view : Entry → RowEntry
row_entry_view e = record {
  name = string_bytes e.name;
  rename = option_map string_bytes e.rename;
  place = place_view e.place.items;
  literal = literal_by e.bare (place_view e.place.items);
  source = source_view e.source;
  old = option_map string_bytes e.old;
}
