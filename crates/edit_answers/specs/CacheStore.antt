-- The model of the store of the files of a cache.
use Rattle.std.specs.Prelude.{ℕ, List, [], None, false, map, string_bytes}
use Rattle.edit_store.specs.Store.{StoreView}
use Rattle.edit_answers.specs.declared.cache_store.CacheStore.{CacheStore}

-- how often the device has failed
abbrev pub cache_faults : {R : Type 0} → CacheStore R → ℕ
cache_faults store = store.failed

-- the paths written so far, one for each write in order
abbrev pub cache_writes : {R : Type 0} → CacheStore R → List (List ℕ)
cache_writes store = map string_bytes store.writes.items

-- the contents of the machine's files are not modelled, only which of them were written
abbrev pub cache_view : {R : Type 0} → CacheStore R → StoreView
cache_view store = record {
  tells = false;
  file_at = λ _. None;
  writes = cache_writes store;
  steps = [];
  faults = cache_faults store;
  stage_errors = 0;
}
