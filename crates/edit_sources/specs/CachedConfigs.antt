-- The model of the cache of configurations: a finite map from folders to what was found there (own).
use Rattle.std.specs.Prelude.{◌≡◌, ℕ, List, [], Option, true, IfSome, IsSome, option_map, unwrap_or}
use Rattle.std.specs.BTreeMap.{get_by_text}
use Rattle.std.specs.List.{flat_map}
use Rattle.edit_store.specs.Store.{StoreView}
use Rattle.edit_sources.specs.ConfigurationFiles.{AreReadIn}
use Rattle.edit_sources.specs.declared.config.Config.{Config}
use Rattle.edit_sources.specs.declared.config.cache.ConfigCache.{ConfigCache}

-- the cached configurations of a folder, if it was searched: that of its file, and then those of what it
-- includes (own)
abbrev pub found_at : ConfigCache → List ℕ → Option (List Config)
found_at cache place = option_map (λ configs. configs.items) (get_by_text cache.found place)

-- the cached configurations are those in their folder, if the contents of the store's files are known (own)
abbrev pub AreCached : StoreView → ConfigCache → Type 0
AreCached seen cache = seen.tells ≡ true → (place : List ℕ)
    → IfSome (found_at cache place) (AreReadIn seen.file_at place)

-- a folder was searched (own)
abbrev pub IsSearchedIn : ConfigCache → List ℕ → Type 0
IsSearchedIn cache place = IsSome (found_at cache place)

-- the configurations that were found in these folders, in their order (own)
abbrev pub found_in : ConfigCache → List (List ℕ) → List Config
found_in cache places = flat_map (λ place. unwrap_or (found_at cache place) []) places
