-- How lookups are made, one after another.
use Rattle.std.specs.Prelude.{◌≡◌, ◌≤◌, ◌⊎◌, ℕ, List, [], ◌∷◌, ◌++◌, Bool, true, false, ◌&&◌, if◌then◌else◌, Option, IsSome, Some, Ok, is_some, string_bytes}
use Rattle.std.specs.Str.{bytes_eq}
use Rattle.edit_base.specs.Errors.{number_of}
use Rattle.edit_base.specs.declared.errors.Error.{Error}
use Rattle.edit_sources.specs.Configured.{HasAddress}
use Rattle.edit_sources.specs.Index.{IsOutcomeError, Outcomes, SameOutcomes, answer_of}
use Rattle.edit_store.specs.Store.{IsRaisedCount}
use Rattle.edit_sources.specs.declared.config.Config.{Config}
use Rattle.url.specs.Parts as url
use Rattle.url.specs.Parts.{serialize}
use Rattle.edit_upgrade.specs.Lookups.{AddsNeeded, AreLookups, CachedAnswers, answer_in, lookup_at}
use Rattle.edit_upgrade.specs.Records.{RowEntry, at_registry}
use Rattle.edit_upgrade.specs.Rows.{is_elsewhere}
use Rattle.edit_upgrade.specs.declared.upgrade.Look.{Look}

-- cached answers are unchanged
abbrev pub Stays : CachedAnswers → CachedAnswers → Type 0
Stays old new = (address name : List ℕ) → IsSome (old address name) → new address name ≡ old address name

-- one lookup: its answer is in the cache, and was there before or is one that the index gives; other cached
-- answers are unchanged
pub record IsLookupMade (address name : List ℕ) (gives : Outcomes) (old new : CachedAnswers)
    (lookup : Look) : Type 0 where
  pub at : serialize lookup.registry ≡ address
  pub of_name : string_bytes lookup.name ≡ name
  pub cached : new address name ≡ Some (answer_of (answer_in lookup))
  pub given : (old address name ≡ Some (answer_of (answer_in lookup)))
      ⊎ gives lookup.registry name (Ok (answer_of (answer_in lookup)))
  pub others : (a n : List ℕ) → (bytes_eq address a && bytes_eq name n) ≡ false → new a n ≡ old a n
  pub stays : Stays old new

-- the error of a lookup: one that the index gives, or a device fault, which raises the count of faults
abbrev pub IsLookupError : Outcomes → url.Parts → List ℕ → ℕ → ℕ → Error → Type 0
IsLookupError gives address name before now e =
    IsOutcomeError gives address name e
    ⊎ ((number_of e ≡ 3) × IsRaisedCount before now)

-- a lookup at this address for this name
abbrev pub IsAt : List ℕ → List ℕ → List ℕ → List ℕ → Type 0
IsAt address of at name = (at ≡ address) × (name ≡ of)

-- the effect of a call, even where it fails: needed answers may be added to the cache, the index keeps its
-- outcomes, and the count of faults does not fall (own)
pub record Leaves (Needed : List ℕ → List ℕ → Type 0) (gives after : Outcomes) (before now : ℕ)
    (old new : CachedAnswers) : Type 0 where
  pub adds : AddsNeeded Needed gives old new
  pub same : SameOutcomes gives after
  pub later : before ≤ now

-- a set of pairs of address and name
abbrev pub PairSet : Type 0
PairSet = List ℕ → List ℕ → Bool

-- the state of a walk over entries: the lookups made so far, and the set of their addresses and names
pub record IsWalkState (Needed : List ℕ → List ℕ → Type 0) (gives : Outcomes) (old now : CachedAnswers)
    (made : List Look)
    (pairs : PairSet) : Type 0 where
  pub lookups : AreLookups Needed gives old now made
  pub set : (a n : List ℕ) → pairs a n ≡ is_some (lookup_at made a n)

-- a step for an address and a name: nothing where the set contains the pair, else one more lookup; the set
-- contains the pair afterwards
pub record IsStep (address name : List ℕ) (gives : Outcomes) (old new : CachedAnswers)
    (made more : List Look)
    (pairs now : PairSet) : Type 0 where
  pub set : (a n : List ℕ) → now a n ≡ (if bytes_eq address a && bytes_eq name n then true else pairs a n)
  pub done : ((pairs address name ≡ true) × (more ≡ made) × (new ≡ old))
      ⊎ ((lookup : Look) × (pairs address name ≡ false) × (more ≡ made ++ lookup ∷ [])
      × IsLookupMade address name gives old new lookup)

-- a step for an entry: that for its registry's address and its name, or nothing for an entry of no registry
pub record IsEntryStep (configs : List Config) (e : RowEntry) (gives : Outcomes) (old new : CachedAnswers)
    (made more : List Look) (pairs now : PairSet) : Type 0 where
  pub lookups : (named : Option (List ℕ)) → e.source ≡ at_registry named
      → (address : url.Parts) × HasAddress configs named address
      × IsStep (serialize address) e.name gives old new made more pairs now
  pub idle : is_elsewhere e.source ≡ true → (more ≡ made) × (now ≡ pairs) × (new ≡ old)

-- each pair of the set has a cached answer (own)
abbrev pub AreAllCached : PairSet → CachedAnswers → Type 0
AreAllCached pairs cached = (address name : List ℕ) → pairs address name ≡ true → IsSome (cached address name)

-- a walk over entries: a step for each, in order (own)
pub data AreSteps (configs : List Config) (gives : Outcomes)
    : List RowEntry → CachedAnswers → CachedAnswers → List Look → List Look → PairSet → PairSet → Type 0 where
  start : (cached : CachedAnswers) (made : List Look) (pairs : PairSet)
      → AreSteps configs gives [] cached cached made
      made pairs pairs
  further : (front : List RowEntry) (e : RowEntry) (old mid new : CachedAnswers)
      (made between more : List Look)
      (pairs then_pairs now : PairSet) → AreSteps configs gives front old mid made between pairs then_pairs
      → IsEntryStep configs e gives mid new between more then_pairs now
      → AreSteps configs gives (front ++ e ∷ []) old new made more pairs now
