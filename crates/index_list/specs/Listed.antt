-- The model of a store that shows listed files as an index (own).
use Rattle.std.specs.Prelude.{◌≡◌, ℕ, ◌+◌, ◌-◌, ◌^◌, ◌++◌, List, [], ◌∷◌, Bool, Option, Some, None, map, String, min, option_map, string_bytes, if◌then◌else◌}
use Rattle.std.specs.BTreeMap.{BTreeMap, get_by_text}
use Rattle.std.specs.List.{find}
use Rattle.std.specs.Option.{unwrap_or}
use Rattle.std.specs.Str.{bytes_eq}
use Rattle.edit_lookups.specs.CachedTexts.{cached_body}
use Rattle.edit_store.specs.Store.{Files, StoreView}
use Rattle.index_list.specs.EntryLists.{EntryText}
use Rattle.index_list.specs.declared.listed_store.ListedFile.{ListedFile}
use Rattle.index_list.specs.declared.listed_store.ListedStore.{ListedStore}

-- a file to show: whether it is a cached one, and its path (own)
pub record ShownFile : Type 0 where
  pub is_cached : Bool
  pub path : List ℕ

-- the file of an entry (own)
abbrev pub entry_file : EntryText → ShownFile
entry_file e = record { is_cached = e.is_cached; path = e.file }

-- the path at which an entry is shown: below a folder (own)
abbrev pub entry_path : List ℕ → EntryText → List ℕ
entry_path folder e = folder ++ 47 ∷ e.below

-- the file that is shown at a path: that of the first entry with this path (own)
abbrev pub file_of_entries : List ℕ → List EntryText → List ℕ → Option ShownFile
file_of_entries folder entries path =
    option_map entry_file (find (λ e. bytes_eq (entry_path folder e) path) entries)

-- the bytes that a file shows: the whole text, but of a cached file the body (own)
abbrev pub shown_bytes : Bool → List ℕ → List ℕ
shown_bytes is_cached text = if is_cached then cached_body text else text

-- the bytes at a path, given the file that is shown there; where no file is shown, those of the store below.
-- A listed file that is missing counts as empty here, but it is an error to read it (own)
abbrev pub bytes_shown : Files → List ℕ → Option ShownFile → Option (List ℕ)
bytes_shown files path None = files path
bytes_shown files path (Some shown) = Some (shown_bytes shown.is_cached (unwrap_or (files shown.path) []))

-- a listed file as a file to show (own)
abbrev pub listed_file : ListedFile → ShownFile
listed_file f = record { is_cached = f.is_cached; path = string_bytes f.path }

-- the file that a map shows at a path (own)
abbrev pub file_of_map : {Y : Type 0} → BTreeMap (String Y) ListedFile → List ℕ → Option ShownFile
file_of_map listed path = option_map listed_file (get_by_text listed path)

-- the model of the store: the bytes that are shown. A call fails as in the store below, where a listed file
-- is missing, and where it would write (own)
abbrev pub listed_view : {S : Type 0} → (S → StoreView) → ListedStore S → StoreView
listed_view view store =
    let files = view store.files in record {
      tells = files.tells;
      file_at = λ path. bytes_shown files.file_at path (file_of_map store.listed path);
      writes = files.writes;
      steps = [];
      faults = min (files.faults + store.failed) (2 ^ 64 - 1);
      stage_errors = store.stage_errors;
    }

-- the store shows these files, and these entries below a folder (own)
pub record ShowsEntries (base : StoreView) (folder : List ℕ) (entries : List EntryText) (shown : StoreView)
    : Type 0 where
  pub tells : shown.tells ≡ base.tells
  pub files : (path : List ℕ) → shown.file_at path
      ≡ bytes_shown base.file_at path (file_of_entries folder entries path)
  pub writes : shown.writes ≡ base.writes
  pub faults : shown.faults ≡ min base.faults (2 ^ 64 - 1)
