-- The lookups of a plan, and their answers.
use Rattle.std.specs.Prelude.{◌≡◌, ℕ, List, [], ◌∷◌, Bool, ◌&&◌, All, ◌⊎◌, IfSome, IsSome, Option, Some, None, Ok, find, string_bytes, option_map, ⊤}
use Rattle.std.specs.Str.{bytes_eq}
use Rattle.edit_version.specs.IndexEntry.{IndexEntry}
use Rattle.edit_version.specs.Admissible.{admissible_in}
use Rattle.edit_version.specs.RustVersions.{Numbers}
use Rattle.edit_cache.specs.IndexCache.{cached_answer_at}
use Rattle.edit_sources.specs.Index.{Outcomes, answer_of, shared_in}
use Rattle.edit_cache.specs.declared.cache.IndexCache.{IndexCache}
use Rattle.edit_sources.specs.declared.config.Config.{Config}
use Rattle.edit_sources.specs.declared.index.IndexKrate.{IndexKrate}
use Rattle.semver.specs.Parse.{Parts}
use Rattle.url.specs.Parts as url
use Rattle.url.specs.Parts.{serialize}
use Rattle.edit_upgrade.specs.Rows.{Basis}
use Rattle.edit_upgrade.specs.declared.upgrade.Look.{Look}
use Rattle.edit_upgrade.specs.declared.decision.options.Options.{Options}

-- an answer: the index entries of a crate, or none where the index does not have the crate
abbrev pub Answer : Type 0
Answer = Option (List IndexEntry)

-- the cached answers, by address and name
abbrev pub CachedAnswers : Type 0
CachedAnswers = List ℕ → List ℕ → Option Answer

-- the cached answers of a cache
abbrev pub cached_by : {I : Type 0} → IndexCache I → CachedAnswers
cached_by c address name = option_map answer_of (cached_answer_at c address name)

-- the entries that a lookup found, if the index has the crate (own)
abbrev pub answer_in : Look → Option IndexKrate
answer_in lookup = shared_in lookup.answer

-- the lookup was made at this address for this name
abbrev pub is_lookup_at : List ℕ → List ℕ → Look → Bool
is_lookup_at address name lookup =
    bytes_eq (serialize lookup.registry) address && bytes_eq (string_bytes lookup.name) name

-- the first lookup at an address for a name
abbrev pub lookup_at : List Look → List ℕ → List ℕ → Option Look
lookup_at lookups address name = find (is_lookup_at address name) lookups

-- the versions of an answer that this Rust version admits
abbrev pub versions_in : Option Numbers → Option Answer → List Parts
versions_in rust (Some (Some entries)) = admissible_in rust entries
versions_in rust other = []

-- the admitted versions in the lookups of a name at an address
abbrev pub lookup_versions : Option Numbers → List Look → List ℕ → List ℕ → List Parts
lookup_versions rust lookups address name =
    versions_in rust (option_map (λ lookup. answer_of (answer_in lookup)) (lookup_at lookups address name))

-- no two lookups have the same address and name
abbrev pub AreApart : List Look → Type 0
AreApart [] = ⊤
AreApart (lookup ∷ lookups) =
    (lookup_at lookups (serialize lookup.registry) (string_bytes lookup.name) ≡ None) × AreApart lookups

-- the lookups of a plan, given the cached answers before and after: each needed pair of address and name
-- exactly once and no other, with the answer cached now, which was cached before or is one that the index
-- gives; no other answer was added
pub record AreLookups (Needed : List ℕ → List ℕ → Type 0) (gives : Outcomes) (old new : CachedAnswers)
    (lookups : List Look) : Type 0 where
  pub complete : (address name : List ℕ) → Needed address name → IsSome (lookup_at lookups address name)
  pub needed : All (λ lookup. Needed (serialize lookup.registry) (string_bytes lookup.name)) lookups
  pub once : AreApart lookups
  pub as_cached : All
      (λ lookup. new (serialize lookup.registry) (string_bytes lookup.name)
      ≡ Some (answer_of (answer_in lookup))) lookups
  pub given : All
      (λ lookup. (old (serialize lookup.registry) (string_bytes lookup.name)
      ≡ Some (answer_of (answer_in lookup)))
      ⊎ gives lookup.registry (string_bytes lookup.name) (Ok (answer_of (answer_in lookup)))) lookups
  pub others : (address name : List ℕ) → lookup_at lookups address name ≡ None → new address name
      ≡ old address name

-- a lookup that the index answers so: at a registry with this address
pub record IsIndexAnswer (gives : Outcomes) (address name : List ℕ) (answer : Answer) : Type 0 where
  pub registry : url.Parts
  pub at : serialize registry ≡ address
  pub given : gives registry name (Ok answer)

-- the effect of a call on the cached answers, even where it fails: those cached before are unchanged, and
-- each new one is needed and is one that the index gives (own)
pub record AddsNeeded (Needed : List ℕ → List ℕ → Type 0) (gives : Outcomes) (old new : CachedAnswers)
    : Type 0 where
  pub stays : (address name : List ℕ) → IsSome (old address name) → new address name ≡ old address name
  pub added : (address name : List ℕ) → old address name ≡ None
      → IfSome (new address name) (λ answer. Needed address name × IsIndexAnswer gives address name answer)

-- what rows depend on, with versions from the cached answers (own)
abbrev pub cached_basis : ℕ → Options → Option Numbers → List Config → CachedAnswers → Basis
cached_basis input o rust configs cached = record {
  input = input;
  options = o;
  configs = configs;
  versions = λ address name. versions_in rust (cached address name);
}
