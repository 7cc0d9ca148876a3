-- Which entries get a row, and what they say: those that have a record, but for one that takes all from its
-- workspace (Cargo reference, "Specifying Dependencies").
use Rattle.std.specs.Prelude.{ℕ, List, [], Option, Some, None, option_and_then, option_map}
use Rattle.std.specs.List.{filter_map}
use Rattle.edit_tree.specs.Assertions.{Place}
use Rattle.edit_record.specs.EntryRecords.{EntryRecord, Origin, from_git, from_path, from_registry, from_workspace, origin_version}
use Rattle.edit_manifest.specs.Tables.{Tree}
use Rattle.edit_manifest.specs.Entries.{Entry, entries}

-- where the crate of an entry comes from
pub data Source : Type 0 where
  -- a registry, by its name where one is given
  at_registry : Option (List ℕ) → Source
  at_repository : Source
  at_folder : Source

-- an entry that gets a row
pub record RowEntry : Type 0 where
  -- the crate's name, and the other name that the manifest gives it
  pub name : List ℕ
  pub rename : Option (List ℕ)
  -- where the entry stands, and where its version literal does
  pub place : Place
  pub literal : Place
  pub source : Source
  -- the requirement, cut before the first `+`
  pub old : Option (List ℕ)

-- where the crate of an entry comes from; nowhere by itself, where that is said in its workspace
abbrev pub source_by : Option (List ℕ) → Origin → Option Source
source_by named (from_registry version) = Some (at_registry named)
source_by named (from_path path version) = Some at_folder
source_by named (from_git g) = Some at_repository
source_by named from_workspace = None

-- the same of a record
abbrev pub source_of : EntryRecord → Option Source
source_of r = option_and_then (source_by r.registry) r.origin

-- the requirement of a record
abbrev pub version_of : EntryRecord → Option (List ℕ)
version_of r = option_and_then origin_version r.origin

-- the entry that has this source
abbrev pub row_entry_at : Entry → EntryRecord → Source → RowEntry
row_entry_at e r source = record {
  name = r.name;
  rename = r.rename;
  place = e.place;
  literal = e.literal;
  source = source;
  old = version_of r;
}

-- the entry of this record, where it gets a row
abbrev pub row_entry_of : Entry → EntryRecord → Option RowEntry
row_entry_of e r = option_map (row_entry_at e r) (source_of r)

-- the entry, where it gets a row
abbrev pub with_row : Entry → Option RowEntry
with_row e = option_and_then (row_entry_of e) e.said

-- the entries that get a row, in order; from which folder their paths are meant plays no part in it
abbrev pub row_entries : Tree → List RowEntry
row_entries t = filter_map with_row (entries t [])
