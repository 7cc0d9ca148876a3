-- The models of entries.
use Rattle.std.specs.Prelude.{◌≡◌, ⊤, ℕ, List, Bool, true, false, Option, Some, None, Result, Err, string_bytes}
use Rattle.edit_tree.specs.Assertions.{Place}
use Rattle.edit_document.specs.Items.{place_view}
use Rattle.edit_record.specs.EntryRecords.{EntryRecord, EntryError}
use Rattle.edit_record.specs.ReadEntries.{record_of}
use Rattle.edit_record.specs.RecordViews.{record_view, IsErrorOf}
use Rattle.edit_manifest.specs.Entries as named
use Rattle.edit_manifest.specs.Entries.{version_place}
use Rattle.edit_manifest.specs.Tables.{Tree}
use Rattle.edit_manifest.specs.declared.entries.found.Entry.{Entry}
use Rattle.edit_manifest.specs.declared.entries.found.ReadEntry.{ReadEntry}
use Rattle.edit_manifest.specs.declared.entries.found.ReadEntry.TheVariants.{Read, Unsupported}

-- the place of the version literal of an entry, given whether it is a string (own)
abbrev pub literal_by : Bool → Place → Place
literal_by true place = place
literal_by false place = version_place place

-- the model of a read entry (own)
abbrev pub read_entry_view : ReadEntry → Option EntryRecord
read_entry_view (Read d) = Some (record_view d)
read_entry_view (Unsupported error) = None

-- the model of an entry (own)
abbrev pub entry_view : Entry → named.Entry
entry_view e = record {
  name = string_bytes e.key;
  place = place_view e.place.items;
  literal = literal_by e.bare (place_view e.place.items);
  said = read_entry_view e.said;
}

-- an unsupported entry has the error of reading the item (own)
abbrev pub IsReason : Result EntryRecord EntryError → ReadEntry → Type 0
IsReason read (Read d) = ⊤
IsReason read (Unsupported error) = (r : EntryError) × (read ≡ Err r) × IsErrorOf r error

-- an unsupported entry has the error of reading the item at its place under its key, with relative paths
-- joined to this root (own)
abbrev pub HasReason : Tree → List ℕ → Entry → Type 0
HasReason t root e = IsReason (record_of t (place_view e.place.items) root (string_bytes e.key)) e.said
