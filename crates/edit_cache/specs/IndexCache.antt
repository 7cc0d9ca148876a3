-- The model of the cache of an index: a finite map from address and name to the first result (own).
use Rattle.std.specs.Prelude.{◌≡◌, ◌≢◌, ℕ, ◌⊎◌, List, Option, None, Bool, option_map, option_and_then, string_bytes, Result, Ok, IsOk, IsSome, IfSome, IfErr, OnOk, OnErr}
use Rattle.std.specs.List.{list_any}
use Rattle.std.specs.Str.{bytes_eq}
use Rattle.std.specs.BTreeMap.{get_by_text}
use Rattle.url.specs.Parts.{Parts, serialize}
use Rattle.edit_base.specs.declared.errors.Error.{Error}
use Rattle.edit_base.specs.Errors.{number_of, IsMemory}
use Rattle.edit_sources.specs.Index.{IndexView, Outcomes, SameOutcomes, HasLookupCause, IsOutcomeError, answer_of, shared_in}
use Rattle.edit_sources.specs.declared.index.IndexKrate.{IndexKrate}
use Rattle.edit_cache.specs.CachedAnswer.{IsRanked}
use Rattle.edit_cache.specs.RegistryAnswers.{result_in}
use Rattle.edit_cache.specs.declared.cache.IndexCache.{IndexCache}
use Rattle.edit_cache.specs.declared.cached_result.CachedAnswer.{CachedAnswer}
use Rattle.edit_cache.specs.declared.ranking.Ranked.{Ranked}

-- the index below the cache (own)
abbrev pub index_of : {I : Type 0} → IndexCache I → I
index_of cache = cache.index

-- the cached result for an address and a name, with its ranking once that is made (own)
abbrev pub cached_at : {I : Type 0} → IndexCache I → List ℕ → List ℕ → Option CachedAnswer
cached_at cache address name =
    option_and_then (λ answers. result_in answers name) (get_by_text cache.answers address)

-- the cached result for an address and a name, if there is one (own)
abbrev pub cached_answer_at : {I : Type 0} → IndexCache I → List ℕ → List ℕ → Option (Option IndexKrate)
cached_answer_at cache address name =
    option_map (λ cached. shared_in cached.answer) (cached_at cache address name)

-- the cached entries for an address and a name: none where nothing is cached, or where the index has no
-- crate of that name (own)
abbrev pub krate_at : {I : Type 0} → IndexCache I → List ℕ → List ℕ → Option IndexKrate
krate_at cache address name = option_and_then (λ krate. krate) (cached_answer_at cache address name)

-- the cached results are the same for every address and name (own)
abbrev pub HasSameCache : {I : Type 0} → IndexCache I → IndexCache I → Type 0
HasSameCache old new = (address name : List ℕ)
    → cached_answer_at new address name ≡ cached_answer_at old address name

-- the cached results are the same for every address and name except this one (own)
abbrev pub HasSameCacheBut : {I : Type 0} → List ℕ → List ℕ → IndexCache I → IndexCache I → Type 0
HasSameCacheBut at of old new = (address name : List ℕ) → (address ≢ at) ⊎ (name ≢ of)
    → cached_answer_at new address name ≡ cached_answer_at old address name

-- whether one of the entries has this version, compared as text (own)
abbrev pub has_version : IndexKrate → List ℕ → Bool
has_version krate version = list_any (λ v. bytes_eq (string_bytes v.version) version) krate.versions.items

-- a call after which a result is cached, if it succeeds: it changes nothing where there was one; else it
-- makes one lookup, whose result it caches and whose error it does not (own)
pub record Fetches {I T : Type 0} (seen now : IndexView) (address : Parts) (name : List ℕ)
    (old new : IndexCache I) (result : Result T Error) : Type 0 where
  pub cached : OnOk result (IsSome (cached_answer_at new (serialize address) name))
  pub first : IsSome (cached_answer_at old (serialize address) name) → (new ≡ old) × IsOk result
  pub others : HasSameCacheBut (serialize address) name old new
  pub refused : OnErr result (HasSameCache old new)
  pub given : cached_answer_at old (serialize address) name ≡ None
      → OnOk result (IfSome (cached_answer_at new (serialize address) name)
      (λ k. seen.gives address name (Ok (answer_of k))))
  pub same : SameOutcomes seen.gives now.gives
  pub cause : HasLookupCause seen now address name result

-- the cached ranking for an address and a name, if there is one (own)
abbrev pub ranking_at : {I : Type 0} → IndexCache I → List ℕ → List ℕ → Option Ranked
ranking_at cache address name = option_and_then (λ cached. cached.ranked) (cached_at cache address name)

-- a call after which a result and its ranking are cached, if it succeeds: it makes a lookup only where
-- nothing was cached, and a result that it caches is one that the index gave, even if memory runs out (own)
pub record Ranks {I T : Type 0} (seen now : IndexView) (address : Parts) (name : List ℕ)
    (old new : IndexCache I) (result : Result T Error) : Type 0 where
  pub ranked : OnOk result (IfSome (cached_answer_at new (serialize address) name)
      (λ k. IsRanked k (ranking_at new (serialize address) name)))
  pub cached : OnOk result (IsSome (cached_answer_at new (serialize address) name))
  pub first : IsSome (cached_answer_at old (serialize address) name)
      → HasSameCache old new × IfErr result IsMemory
  pub others : HasSameCacheBut (serialize address) name old new
  pub given : cached_answer_at old (serialize address) name ≡ None
      → IfSome (cached_answer_at new (serialize address) name)
      (λ k. seen.gives address name (Ok (answer_of k)))
  pub same : SameOutcomes seen.gives now.gives
  pub cause : HasLookupCause seen now address name result

-- the errors of a call: lack of memory, or, where nothing was cached, an error that the index gives or a
-- fault of its device (own)
abbrev pub IsMissError : Outcomes → Parts → List ℕ → Option (Option IndexKrate) → Error → Type 0
IsMissError gives address name cached e =
    IsMemory e ⊎ ((cached ≡ None) × (IsOutcomeError gives address name e ⊎ (number_of e ≡ 3)))
