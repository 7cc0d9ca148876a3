-- The results of a lookup in an index in a single file (own).
use Rattle.std.specs.Prelude.{◌≡◌, ℕ, List, [], ◌∷◌, ◌++◌, Option, Some, None, Ok, Err, true, false, map, ◌⊎◌, String, string_bytes, unwrap_or}
use Rattle.std.specs.List.{All, filter}
use Rattle.std.specs.Option.{option_map_or}
use Rattle.std.specs.Str.{bytes_eq}
use Rattle.std.specs.BTreeMap.{BTreeMap, get_by_text}
use Rattle.std.specs.declared.alloc.Global.{Global}
use Rattle.std.specs.declared.rc.Rc.{Rc}
use Rattle.edit_sources.specs.declared.index.IndexKrate.{IndexKrate}
use Rattle.edit_version.specs.declared.fetch.IndexVersion.{IndexVersion}
use Rattle.edit_version.specs.IndexEntry.{IndexEntry, entry_of}
use Rattle.edit_sources.specs.Index.{IndexView, Outcome, bad_name}
use Rattle.edit_sources.specs.IndexLines.{HaveEntriesInOrder, lines_of}
use Rattle.edit_sources.specs.Names.{is_crate_name}
use Rattle.edit_sources.specs.Withheld.{nothing, of_crate_in}
use Rattle.edit_sources.specs.declared.published.PublishedBefore.{PublishedBefore}
use Rattle.edit_sources.specs.declared.withheld.Withheld.{Withheld}
use Rattle.edit_sources.specs.declared.file_index.FileIndex.{FileIndex}
use Rattle.edit_sources.specs.declared.index_group.Group.{Group}

-- the shared entries of a group, none where none are shared (own)
abbrev pub shared_items : Option (Rc IndexKrate Global) → List IndexVersion
shared_items shared = option_map_or (λ krate. krate.value.versions.items) shared []

-- the entries of a group: those that are shared, and those that are not yet (own)
abbrev pub items_of : Group → List IndexVersion
items_of group = shared_items group.shared ++ group.versions.items

-- the entries of a crate among groups, in the order of the lines (own)
abbrev pub items_at : BTreeMap (String Global) Group → List ℕ → List IndexVersion
items_at groups name = option_map_or items_of (get_by_text groups name) []

-- the entries of a crate, in the order of the lines (own)
abbrev pub named : FileIndex → List ℕ → List IndexEntry
named index name = map entry_of (items_at index.groups name)

-- the lines of a file have entries, and each name has those of that name, in order (own)
pub record HoldsLines (index : FileIndex) (bytes : List ℕ) : Type 0 where
  pub entries : List IndexEntry
  pub say : HaveEntriesInOrder (lines_of bytes) entries
  pub groups : (name : List ℕ) → named index name ≡ filter (λ e. bytes_eq name e.name) entries

-- each name has its entries, in order (own)
abbrev pub GroupsByName : BTreeMap (String Global) Group → List IndexVersion → Type 0
GroupsByName groups entries =
    (name : List ℕ)
    → items_at groups name
    ≡ filter (λ e. bytes_eq name (string_bytes e.name)) entries

-- all entries are of this name (own)
abbrev pub AreNamed : List ℕ → List IndexVersion → Type 0
AreNamed name entries = All (λ e. string_bytes e.name ≡ name) entries

-- each name has its entries among the new ones after those that it had (own)
abbrev pub IsAdded : BTreeMap (String Global) Group → List IndexVersion
    → BTreeMap (String Global) Group → Type 0
IsAdded before entries after =
    (name : List ℕ)
    → items_at after name
    ≡ items_at before name
    ++ filter (λ e. bytes_eq name (string_bytes e.name)) entries

-- what is held back of a crate; none where the file has no line of it, and without a bound (own)
abbrev pub withheld_at : FileIndex → List ℕ → Option Withheld
withheld_at index name = get_by_text index.withheld name

-- this is held back of a crate: nothing where the file has no line of it, and without a bound (own)
abbrev pub HasWithheld : FileIndex → List ℕ → Withheld → Type 0
HasWithheld index name withheld = withheld ≡ unwrap_or (withheld_at index name) nothing

-- each name has what is held back of the crate by its lines (own)
abbrev pub HoldsWithheld : FileIndex → Option PublishedBefore → List ℕ → Type 0
HoldsWithheld index bound bytes = (name : List ℕ) → withheld_at index name ≡ of_crate_in bound bytes name

-- the list if it is not empty (own)
abbrev pub if_any : List IndexEntry → Option (List IndexEntry)
if_any [] = None
if_any (e ∷ es) = Some (e ∷ es)

-- the entries of a crate: none where the file has no line of it, also none that is left out (own)
abbrev pub if_known : Option Withheld → List IndexEntry → Option (List IndexEntry)
if_known None entries = if_any entries
if_known (Some withheld) entries = Some entries

-- the results of a lookup, for every address: an error for an invalid crate name, else the entries of that
-- name, if the file has lines of it (own)
abbrev pub FileGives : FileIndex → List ℕ → Outcome → Type 0
FileGives index name outcome =
    ((is_crate_name name ≡ false) × (outcome ≡ Err (bad_name name)))
    ⊎ ((is_crate_name name ≡ true) × (outcome ≡ Ok (if_known (withheld_at index name) (named index name))))

-- the model of an index in a single file, which never fails (own)
abbrev pub file_view : FileIndex → IndexView
file_view index = record { gives = λ _ name outcome. FileGives index name outcome; faults = 0 }
