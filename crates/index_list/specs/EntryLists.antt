-- The list of the index entries that are available to an upgrade.
use Rattle.std.specs.Prelude.{◌≡◌, ℕ, List, [], ◌∷◌, ◌++◌, All, Bool, codes, if◌then◌else◌}
use Rattle.std.specs.List.{flat_map}
use Rattle.edit_lookups.specs.Lookups.{HasNo}
use Rattle.index_list.specs.declared.entry_list.ListedEntry.{ListedEntry}

-- the model of a listed entry: its path below the folder of an index, whether its file is a cached one, and
-- the path of its file
pub record EntryText : Type 0 where
  pub below : List ℕ
  pub is_cached : Bool
  pub file : List ℕ

-- the model of a listed entry
abbrev pub entry_text : ListedEntry → EntryText
entry_text e = record { below = e.below.now; is_cached = e.is_cached; file = e.file.now }

-- the word for the kind of an entry's file
abbrev pub kind_text : Bool → List ℕ
kind_text is_cached = if is_cached then codes "cached" else codes "local"

-- the fields of an entry: the kind of its file, its path and the path of its file, separated by tabs
abbrev pub entry_fields : EntryText → List ℕ
entry_fields e = kind_text e.is_cached ++ 9 ∷ (e.below ++ 9 ∷ e.file)

-- the record of an entry: its fields and a byte 0
abbrev pub entry_record : EntryText → List ℕ
entry_record e = entry_fields e ++ 0 ∷ []

-- an entry whose path has no tab and no byte 0, and the path of whose file has no byte 0
pub record IsListable (e : EntryText) : Type 0 where
  pub no_tab : HasNo 9 e.below
  pub no_nul : HasNo 0 e.below
  pub file : HasNo 0 e.file

-- the text consists of the records of these entries, in order
pub record HasEntries (text : List ℕ) (entries : List EntryText) : Type 0 where
  pub is : text ≡ flat_map entry_record entries
  pub listable : All IsListable entries
