-- The entries of a manifest: the members of its dependency tables, in order (Cargo reference, "Specifying
-- Dependencies").
use Rattle.std.specs.Prelude.{ℕ, List, map, Option, if◌then◌else◌, codes}
use Rattle.std.specs.List.{flat_map}
use Rattle.std.specs.Result.{result_ok}
use Rattle.edit_tree.specs.Assertions.{Place, at, key}
use Rattle.edit_tree.specs.Replaces.{is_string}
use Rattle.edit_record.specs.EntryRecords.{EntryRecord}
use Rattle.edit_record.specs.ReadEntries.{record_of}
use Rattle.edit_manifest.specs.Tables.{Tree, dependency_tables, member_names}

-- the model of an entry
pub record Entry : Type 0 where
  -- its key, its place, and the place of its version literal
  pub name : List ℕ
  pub place : Place
  pub literal : Place
  -- the dependency; none where reading it fails
  pub said : Option EntryRecord

-- the place of the version requirement of an entry that is a table
abbrev pub version_place : Place → Place
version_place place = at place (key (codes "version"))

-- the place of the version literal of an entry: itself if it is a string, else its key `version`
abbrev pub literal_at : Tree → Place → Place
literal_at t place = if is_string (t place) then place else version_place place

-- the entry of this key in a table, with relative paths joined to this root
abbrev pub entry_at : Tree → List ℕ → Place → List ℕ → Entry
entry_at t root table name = record {
  name = name;
  place = at table (key name);
  literal = literal_at t (at table (key name));
  said = result_ok (record_of t (at table (key name)) root name);
}

-- the entries of a table
abbrev pub entries_of : Tree → List ℕ → Place → List Entry
entries_of t root table = map (entry_at t root table) (member_names (t table))

-- the entries of all dependency tables, table by table
abbrev pub entries : Tree → List ℕ → List Entry
entries t root = flat_map (entries_of t root) (dependency_tables t)
