-- The views of a cache before and after a call, and what relates them.
use Rattle.std.specs.Prelude.{ℕ, List}
use Rattle.std.specs.Global.{Vec}
use Rattle.edit_base.specs.declared.errors.Error.{Error}
use Rattle.edit_metadata.specs.declared.input.Input.{Input}
use Rattle.edit_sources.specs.Index.{IndexView, Outcomes}
use Rattle.edit_cache.specs.IndexCache.{index_of}
use Rattle.edit_cache.specs.declared.cache.IndexCache.{IndexCache}
use Rattle.edit_sources.specs.declared.config.Config.{Config}
use Rattle.edit_upgrade.specs.Causes.{HasBadEntry, IsCause, IsEntryCause}
use Rattle.edit_upgrade.specs.LookupSteps.{Leaves}
use Rattle.edit_upgrade.specs.Lookups.{CachedAnswers, cached_by}

-- the view of a cache: the possible outcomes of a query to its index, the number of faults so far, and the
-- cached answers (own)
pub record CacheView : Type 1 where
  pub gives : Outcomes
  pub faults : ℕ
  pub cached : CachedAnswers

-- the view of a cache, given the view of its index (own)
abbrev pub cache_view : {I : Type 0} → (I → IndexView) → IndexCache I → CacheView
cache_view view cache = record {
  gives = (view (index_of cache)).gives;
  faults = (view (index_of cache)).faults;
  cached = cached_by cache;
}

-- `Leaves`, over views of the cache before and after (own)
abbrev pub LeavesCache : (List ℕ → List ℕ → Type 0) → CacheView → CacheView → Type 0
LeavesCache Needed old new = Leaves Needed old.gives new.gives old.faults new.faults old.cached new.cached

-- `HasBadEntry`, over views of the cache before and after (own)
abbrev pub StopsManifest : List Config → List ℕ → CacheView → CacheView → Error → Type 0
StopsManifest configs bytes old new e =
    HasBadEntry configs old.gives old.cached new.cached old.faults new.faults bytes e

-- `IsEntryCause`, over views of the cache before and after (own)
abbrev pub StopsDocuments : List Input → List (Vec Config) → CacheView → CacheView → Error → Type 0
StopsDocuments inputs configs old new e =
    IsEntryCause inputs configs old.gives old.cached new.cached old.faults new.faults e

-- `IsCause`, over views of the cache before and after (own)
abbrev pub StopsInputs : List Input → List (Vec Config) → CacheView → CacheView → Error → Type 0
StopsInputs inputs configs old new e =
    IsCause inputs configs old.gives old.cached new.cached old.faults new.faults e
