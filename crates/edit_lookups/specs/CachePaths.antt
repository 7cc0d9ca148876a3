-- The paths of index entries in the cache.
use Rattle.std.specs.Prelude.{ℕ, List, ◌∷◌, ◌++◌}
use Rattle.edit_sources.specs.Folders.{registry_folder}
use Rattle.edit_lookups.specs.Lookups.{LookupText}
use Rattle.edit_lookups.specs.UserinfoAddresses.{strip_userinfo}

-- the path of an entry: in the folder of its registry's address without userinfo
abbrev pub cached_path : List ℕ → LookupText → List ℕ
cached_path cache l = cache ++ 47 ∷ (registry_folder (strip_userinfo l.address) ++ 47 ∷ l.path)
