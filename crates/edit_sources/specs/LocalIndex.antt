-- The results of a lookup in an index of one file per crate (Cargo reference, "Registries", index format).
use Rattle.std.specs.Prelude.{◌≡◌, ℕ, ◌-◌, List, ◌++◌, Option, Some, None, Ok, Err, Bool, true, false, codes, length, option_map, slice_index, ◌⊎◌, ◌==◌, if◌then◌else◌}
use Rattle.std.specs.List.{list_any}
use Rattle.std.specs.Str.{IsUtf8}
use Rattle.percent_encoding.specs.Percent.{percent_decode}
use Rattle.url.specs.Parts.{Parts, has_host, serialize}
use Rattle.edit_version.specs.IndexEntry.{IndexEntry}
use Rattle.edit_sources.specs.Index.{IndexView, LookupError, Outcome, bad_scheme, bad_address, bad_name, bad_line}
use Rattle.edit_sources.specs.IndexLines.{HaveEntriesInOrder, IsBadLine, lines_of}
use Rattle.edit_sources.specs.Names.{is_crate_name, layout}
use Rattle.edit_store.specs.Store.{StoreView}
use Rattle.edit_sources.specs.Published.{published_view}
use Rattle.edit_sources.specs.declared.local_index.LocalIndex.{LocalIndex}
use Rattle.edit_sources.specs.declared.published.PublishedBefore.{PublishedBefore}
use Rattle.edit_sources.specs.Withheld.{of_text}
use Rattle.edit_sources.specs.declared.withheld.Withheld.{Withheld}

-- the store that holds the index (own)
abbrev pub store_of : {S : Type 0} → LocalIndex S → S
store_of index = index.store

-- the bound on the time of publication, if there is one (own)
abbrev pub bound_of : {S : Type 0} → LocalIndex S → Option PublishedBefore
bound_of index = index.bound

-- the view of the store below an index, with the versions that the bound admits (own)
abbrev pub files_of : {S : Type 0} → (S → StoreView) → LocalIndex S → StoreView
files_of view index = published_view (bound_of index) (view (store_of index))

-- a URL of the scheme `file` (RFC 8089, section 2)
abbrev pub IsFileAddress : Parts → Type 0
IsFileAddress address = address.scheme ≡ codes "file"

-- a text that can be the path of a folder: UTF-8 without U+0000 (own)
pub record IsFolderText (folder : List ℕ) : Type 0 where
  pub utf8 : IsUtf8 folder
  pub no_nul : list_any (λ b. b == 0) folder ≡ false

-- the folder of a URL: its path, percent-decoded, if it has no host (RFC 8089, section 2)
pub record IsFolderOf (address : Parts) (folder : List ℕ) : Type 0 where
  pub no_host : has_host address ≡ false
  pub path : folder ≡ percent_decode address.path
  pub valid : IsFolderText folder

-- a URL that names no folder (own)
abbrev pub HasNoFolder : Parts → Type 0
HasNoFolder address = (folder : List ℕ) → IsFolderOf address folder → ⊥

-- whether a path ends with `/` (own)
abbrev pub ends_with_slash : List ℕ → Bool
ends_with_slash folder = slice_index folder (length folder - 1) == 47

-- joins a folder and a path by a single `/` (own)
abbrev pub below : List ℕ → List ℕ → List ℕ
below folder rest = (if ends_with_slash folder then folder else folder ++ codes "/") ++ rest

-- the path of a crate's file in the index at a URL (Cargo reference, "Registries", index files)
pub record IsIndexPath (address : Parts) (name path : List ℕ) : Type 0 where
  pub scheme : IsFileAddress address
  pub folder : List ℕ
  pub folder_of : IsFolderOf address folder
  pub named : is_crate_name name ≡ true
  pub is : path ≡ below folder (layout name)

-- the URL names a folder, and the crate name is invalid (own)
abbrev pub HasNoName : Parts → List ℕ → Type 0
HasNoName address name = ((folder : List ℕ) × IsFolderOf address folder) × (is_crate_name name ≡ false)

-- the error of a path: the scheme, else the URL, else the crate name (own)
abbrev pub HasNoIndexPath : Parts → List ℕ → LookupError → Type 0
HasNoIndexPath address name e =
    ((e ≡ bad_scheme address.scheme) × (IsFileAddress address → ⊥))
    ⊎ (((e ≡ bad_address (serialize address)) × IsFileAddress address × HasNoFolder address)
    ⊎ ((e ≡ bad_name name) × IsFileAddress address × HasNoName address name))

-- the file at a path holds these bytes, if the contents of the store's files are known (own)
abbrev pub HasBytesIn : StoreView → List ℕ → List ℕ → Type 0
HasBytesIn store path bytes = store.tells ≡ true → store.file_at path ≡ Some bytes

-- the crate has no file in the index at a URL (own)
pub record HasNoFile (store : StoreView) (address : Parts) (name : List ℕ) : Type 0 where
  pub path : List ℕ
  pub at : IsIndexPath address name path
  pub absent : store.tells ≡ true → store.file_at path ≡ None

-- the lines of the crate's file have these entries (own)
pub record HasEntries (store : StoreView) (address : Parts) (name : List ℕ) (entries : List IndexEntry)
    : Type 0 where
  pub path : List ℕ
  pub bytes : List ℕ
  pub at : IsIndexPath address name path
  pub stands : HasBytesIn store path bytes
  pub say : HaveEntriesInOrder (lines_of bytes) entries

-- this is the number of the first malformed line of the crate's file (own)
pub record HasBadLine (store : StoreView) (address : Parts) (name : List ℕ) (line : ℕ) : Type 0 where
  pub path : List ℕ
  pub bytes : List ℕ
  pub at : IsIndexPath address name path
  pub stands : HasBytesIn store path bytes
  pub bad : IsBadLine (lines_of bytes) line

-- this is held back of the crate by the lines of its file, if the contents of the store's files are known
-- (own)
pub record HasWithheld (bound : Option PublishedBefore) (store : StoreView) (address : Parts)
    (name : List ℕ) (withheld : Withheld) : Type 0 where
  pub path : List ℕ
  pub at : IsIndexPath address name path
  pub is : store.tells ≡ true → Some withheld ≡ option_map (of_text bound) (store.file_at path)

-- the results of a lookup: no file, the entries of its lines, an error of the path, or the number of the
-- first malformed line (own)
abbrev pub LocalGives : StoreView → Parts → List ℕ → Outcome → Type 0
LocalGives store address name (Ok None) = HasNoFile store address name
LocalGives store address name (Ok (Some entries)) = HasEntries store address name entries
LocalGives store address name (Err e) =
    HasNoIndexPath address name e ⊎ ((line : ℕ) × (e ≡ bad_line line) × HasBadLine store address name line)

-- the model of an index in a store: its lookups fail with the store (own)
abbrev pub local_view : StoreView → IndexView
local_view store = record { gives = LocalGives store; faults = store.faults }
