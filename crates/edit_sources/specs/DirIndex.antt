-- The results of a lookup in a folder of registries (Cargo reference, "Registries", index format).
use Rattle.std.specs.Prelude.{◌≡◌, ℕ, List, Option, Some, None, Ok, Err, option_map, true, false, ◌⊎◌, string_bytes}
use Rattle.url.specs.Parts.{Parts}
use Rattle.edit_version.specs.IndexEntry.{IndexEntry}
use Rattle.edit_sources.specs.Index.{IndexView, Outcome, bad_line, bad_name}
use Rattle.edit_sources.specs.IndexLines.{HaveEntriesInOrder, IsBadLine, lines_of}
use Rattle.edit_sources.specs.LocalIndex.{HasBytesIn}
use Rattle.edit_sources.specs.Names.{is_crate_name}
use Rattle.edit_store.specs.Store.{StoreView}
use Rattle.edit_sources.specs.Folders.{entry_path}
use Rattle.edit_sources.specs.Published.{published_view}
use Rattle.edit_sources.specs.declared.index_dir.dir_index.DirIndex.{DirIndex}
use Rattle.edit_sources.specs.declared.published.PublishedBefore.{PublishedBefore}
use Rattle.edit_sources.specs.Withheld.{of_text}
use Rattle.edit_sources.specs.declared.withheld.Withheld.{Withheld}

-- the store that holds the index (own)
abbrev pub store_of : {S : Type 0} → DirIndex S → S
store_of index = index.store

-- the folder of an index (own)
abbrev pub folder_of : {S : Type 0} → DirIndex S → List ℕ
folder_of index = string_bytes index.folder

-- the bound on the time of publication, if there is one (own)
abbrev pub bound_of : {S : Type 0} → DirIndex S → Option PublishedBefore
bound_of index = index.bound

-- the view of the store below an index, with the versions that the bound admits (own)
abbrev pub files_of : {S : Type 0} → (S → StoreView) → DirIndex S → StoreView
files_of view index = published_view (bound_of index) (view (store_of index))

-- the crate has no file in the folder of the registry (own)
pub record HasNoFile (folder : List ℕ) (store : StoreView) (address : Parts) (name : List ℕ) : Type 0 where
  pub named : is_crate_name name ≡ true
  pub absent : store.tells ≡ true → store.file_at (entry_path folder address name) ≡ None

-- the lines of the crate's file have these entries (own)
pub record HasEntries (folder : List ℕ) (store : StoreView) (address : Parts) (name : List ℕ)
    (entries : List IndexEntry) : Type 0 where
  pub bytes : List ℕ
  pub named : is_crate_name name ≡ true
  pub stands : HasBytesIn store (entry_path folder address name) bytes
  pub say : HaveEntriesInOrder (lines_of bytes) entries

-- this is the number of the first malformed line of the crate's file (own)
pub record HasBadLine (folder : List ℕ) (store : StoreView) (address : Parts) (name : List ℕ) (line : ℕ)
    : Type 0 where
  pub bytes : List ℕ
  pub named : is_crate_name name ≡ true
  pub stands : HasBytesIn store (entry_path folder address name) bytes
  pub bad : IsBadLine (lines_of bytes) line

-- this is held back of the crate by the lines of its file, if the contents of the store's files are known
-- (own)
abbrev pub HasWithheld : Option PublishedBefore → List ℕ → StoreView → Parts → List ℕ → Withheld → Type 0
HasWithheld bound folder store address name withheld =
    store.tells ≡ true
    → Some withheld ≡ option_map (of_text bound) (store.file_at (entry_path folder address name))

-- the results of a lookup: no file, the entries of its lines, an invalid crate name, or the number of the
-- first malformed line (own)
abbrev pub DirGives : List ℕ → StoreView → Parts → List ℕ → Outcome → Type 0
DirGives folder store address name (Ok None) = HasNoFile folder store address name
DirGives folder store address name (Ok (Some entries)) = HasEntries folder store address name entries
DirGives folder store address name (Err e) =
    ((e ≡ bad_name name) × (is_crate_name name ≡ false))
    ⊎ ((line : ℕ) × (e ≡ bad_line line) × HasBadLine folder store address name line)

-- the model of an index in a folder of a store: its lookups fail with the store (own)
abbrev pub dir_view : List ℕ → StoreView → IndexView
dir_view folder store = record { gives = DirGives folder store; faults = store.faults }
