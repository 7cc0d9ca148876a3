-- The results of lookups.
use Rattle.std.specs.Prelude.{◌≡◌, ◌⊎◌, ℕ, List, [], Option, Some, None, Bool, true, false, slice_get}
use Rattle.edit_store.specs.Store.{Files, SameBut, SameFiles}
use Rattle.edit_lookups.specs.CachedTexts.{IsEtag, cached_text}
use Rattle.edit_lookups.specs.CachePaths.{cached_path}
use Rattle.edit_lookups.specs.Lookups.{LookupText}
use Rattle.edit_answers.specs.Bodies.{IsDamaged, IsWholeIndex}
use Rattle.edit_answers.specs.Etags.{IsEntryText}
use Rattle.edit_answers.specs.Meanings.{new_meaning}
use Rattle.edit_answers.specs.Places.{body_path, etag_path}
use Rattle.edit_answers.specs.declared.bodies.Damage.{Damage}
use Rattle.edit_answers.specs.declared.bodies.Damage.TheVariants.{NotWhole}
use Rattle.edit_answers.specs.declared.meaning.Failure.{Failure}
use Rattle.edit_answers.specs.declared.meaning.Failure.TheVariants.{NotAnIndex}
use Rattle.edit_answers.specs.declared.meaning.Meaning.{Meaning}
use Rattle.edit_answers.specs.declared.meaning.Meaning.TheVariants.{Failed, NotModified}
use Rattle.edit_answers.specs.declared.meaning.Meaning.TheVariants as meaning
use Rattle.edit_answers.specs.declared.meaning.Outcome.{Outcome}
use Rattle.edit_answers.specs.declared.meaning.Outcome.TheVariants.{Absent, Cached, Current, Fetched, Missing, Moved}
use Rattle.edit_answers.specs.declared.places.Places.{Places}

-- the entry was fetched, with or without a redirect
abbrev pub IsStored : Outcome → Type 0
IsStored o = (o ≡ Fetched) ⊎ (o ≡ Moved)

-- the write that a lookup allows: if its entry was fetched, that entry, with a complete index file of its
-- crate; after a redirect without an ETag
pub data Puts (p : Places) (l : LookupText) (o : Outcome) : List ℕ → List ℕ → Type 0 where
  entry : (etag body : List ℕ) → IsStored o → IsEtag etag → (o ≡ Moved → etag ≡ [])
      → IsWholeIndex l.name body
      → Puts p l o (cached_path p.cache.now l) (cached_text etag body)

-- the result of a lookup, given its file in the cache, whatever the file holds
abbrev pub by_cached : Option (List ℕ) → Outcome → Failure → Outcome
by_cached None had lost = Missing lost
by_cached (Some bytes) had lost = had

-- why the body of a transfer is not a complete index file of the crate; a missing one counts as an empty one
abbrev pub IsBodyDamage : List ℕ → Option (List ℕ) → Damage → Type 0
IsBodyDamage name None damage = damage ≡ NotWhole
IsBodyDamage name (Some body) damage = IsDamaged name body damage

-- the body of the transfer is a complete index file of the crate
abbrev pub HasBody : Places → LookupText → ℕ → Files → Type 0
HasBody p l number files =
    (body : List ℕ) × (files (body_path p.room.now number) ≡ Some body) × IsWholeIndex l.name body

-- the result of a lookup whose new body is stored, given whether no redirect was followed
abbrev pub stored_outcome : Bool → Outcome
stored_outcome true = Fetched
stored_outcome false = Moved

-- the result of a lookup, given the meaning of its transfer and these files: a new body counts only if it is
-- a complete index file; without one, the cached entry is used
pub data Settles (p : Places) (l : LookupText) (number : ℕ) (files : Files) : Meaning → Outcome → Type 0 where
  fetched : (is_direct : Bool) → HasBody p l number files
      → Settles p l number files (new_meaning is_direct) (stored_outcome is_direct)
  unusable : (is_direct : Bool) (damage : Damage)
      → IsBodyDamage l.name (files (body_path p.room.now number)) damage
      → Settles p l number files (new_meaning is_direct)
      (by_cached (files (cached_path p.cache.now l)) (Cached (NotAnIndex damage)) (NotAnIndex damage))
  current : (lost : Failure)
      → Settles p l number files NotModified (by_cached (files (cached_path p.cache.now l)) Current lost)
  absent : Settles p l number files meaning.Absent Absent
  failed : (f : Failure)
      → Settles p l number files (Failed f) (by_cached (files (cached_path p.cache.now l)) (Cached f) f)

-- the file at a path holds the cached entry with this body, and no other file changes
pub record StoresBody (is_direct : Bool) (path saved body : List ℕ) (old new : Files) : Type 0 where
  pub text : List ℕ
  pub is : IsEntryText is_direct (old saved) body text
  pub stored : new path ≡ Some text
  pub others : SameBut path old new

-- the entry of a lookup is replaced by the body of its transfer, and no other file changes
abbrev pub StoresEntry : Bool → Places → LookupText → ℕ → Files → Files → Type 0
StoresEntry is_direct p l number old new =
    let path = body_path p.room.now number in
    (body : List ℕ) × (old path ≡ Some body)
    × StoresBody is_direct (cached_path p.cache.now l) (etag_path path) body old new

-- what a lookup with this result changes: a new entry is stored, without an ETag after a redirect; for any
-- other result no file changes
abbrev pub Stores : Outcome → Places → LookupText → ℕ → Files → Files → Type 0
Stores Fetched p l number old new = StoresEntry true p l number old new
Stores Moved p l number old new = StoresEntry false p l number old new
Stores _ p l number old new = SameFiles old new

-- the writes that one of these lookups allows, given its result
pub record PutsOne (p : Places) (ls : List LookupText) (outcomes : List Outcome) (path bytes : List ℕ)
    : Type 0 where
  pub number : ℕ
  pub lookup : LookupText
  pub outcome : Outcome
  pub is : slice_get ls number ≡ Some lookup
  pub becomes : slice_get outcomes number ≡ Some outcome
  pub puts : Puts p lookup outcome path bytes

-- the writes that those of these lookups allow whose numbers, from 0, are among some, whatever the result
pub record PutsAmong (p : Places) (ls : List LookupText) (Is : ℕ → Type 0) (path bytes : List ℕ)
    : Type 0 where
  pub number : ℕ
  pub lookup : LookupText
  pub among : Is number
  pub is : slice_get ls number ≡ Some lookup
  pub puts : Puts p lookup Fetched path bytes

-- the writes that one of these lookups allows, whatever its result
abbrev pub PutsSome : Places → List LookupText → List ℕ → List ℕ → Type 0
PutsSome p ls path bytes = PutsAmong p ls (λ _. Unit) path bytes
