-- The list of the index entries that are available to the upgrade.
use Rattle.std.specs.Prelude.{◌≡◌, ℕ, List, [], ◌∷◌, ◌++◌, Some, Bool, true, false}
use Rattle.std.specs.List.{flat_map}
use Rattle.edit_store.specs.Store.{Files, SameBut}
use Rattle.index_list.specs.EntryLists.{EntryText, entry_record}
use Rattle.edit_lookups.specs.CachePaths.{cached_path}
use Rattle.edit_lookups.specs.Lookups.{LookupText, lookup_text}
use Rattle.edit_lookups.specs.declared.lookups.Lookup.{Lookup}
use Rattle.edit_answers.specs.Locals.{IsLocalFile}
use Rattle.edit_answers.specs.Places.{index_path, list_path}
use Rattle.edit_answers.specs.declared.meaning.Outcome.{Outcome}
use Rattle.edit_answers.specs.declared.meaning.Outcome.TheVariants.{Cached, Current, Fetched, Local, Moved}
use Rattle.edit_answers.specs.declared.places.Places.{Places}

-- a lookup with this result uses its cached entry
abbrev pub is_in_cache : Outcome → Bool
is_in_cache Fetched = true
is_in_cache Moved = true
is_in_cache Current = true
is_in_cache (Cached failure) = true
is_in_cache _ = false

-- a lookup with this result uses the file of a registry on this machine
abbrev pub is_local_entry : Outcome → Bool
is_local_entry Local = true
is_local_entry _ = false

-- the file of the entry of a lookup with this result, and whether it is in the cache
pub data HasFile (p : Places) (l : LookupText) (o : Outcome) : Bool → List ℕ → Type 0 where
  cached : is_in_cache o ≡ true → HasFile p l o true (cached_path p.cache.now l)
  local : (file : List ℕ) → is_local_entry o ≡ true → IsLocalFile l file → HasFile p l o false file

-- the entry of a lookup, which is in this file
abbrev pub entry_at : Bool → LookupText → List ℕ → EntryText
entry_at is_cached l file = record { below = index_path l; is_cached = is_cached; file = file }

-- the available entries of a lookup with this result: at most one
pub data HasEntry (p : Places) (l : LookupText) (o : Outcome) : List EntryText → Type 0 where
  some : (is_cached : Bool) (file : List ℕ) → HasFile p l o is_cached file
      → HasEntry p l o (entry_at is_cached l file ∷ [])
  none : ((is_cached : Bool) (file : List ℕ) → HasFile p l o is_cached file → ⊥) → HasEntry p l o []

-- the available entries of lookups with these results, in order
pub data AreAvailable (p : Places) : List (Lookup × Outcome) → List EntryText → Type 0 where
  none : AreAvailable p [] []
  more : (pairs : List (Lookup × Outcome)) (l : Lookup) (o : Outcome) (entries added : List EntryText)
      → AreAvailable p pairs entries → HasEntry p (lookup_text l) o added
      → AreAvailable p (pairs ++ (l, o) ∷ []) (entries ++ added)

-- the text is the list of the available entries of lookups with these results
pub record IsListOf (p : Places) (pairs : List (Lookup × Outcome)) (text : List ℕ) : Type 0 where
  pub entries : List EntryText
  pub available : AreAvailable p pairs entries
  pub is : text ≡ flat_map entry_record entries

-- the write of the list, which has the available entries of these lookups
pub record PutsList (p : Places) (pairs : List (Lookup × Outcome)) (path bytes : List ℕ) : Type 0 where
  pub at : path ≡ list_path p.room.now
  pub is : IsListOf p pairs bytes

-- the list is written, with the available entries of these lookups, and no other file changes
pub record WritesList (p : Places) (pairs : List (Lookup × Outcome)) (old new : Files) : Type 0 where
  pub text : List ℕ
  pub is : IsListOf p pairs text
  pub written : new (list_path p.room.now) ≡ Some text
  pub others : SameBut (list_path p.room.now) old new
