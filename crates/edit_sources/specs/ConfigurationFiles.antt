-- The configuration files that cargo reads, the first one first (Cargo reference, "Configuration",
-- Hierarchical structure).
use Rattle.std.specs.Prelude.{◌≡◌, ℕ, List, [], ◌∷◌, ◌++◌, map, Option, Bool, true, cond, codes, is_some, string_bytes}
use Rattle.std.specs.List.{AllZip}
use Rattle.std.specs.Option.{option_to_list}
use Rattle.edit_base.specs.Paths.{joined, IsFolderOf}
use Rattle.edit_store.specs.Climbs.{Climbs}
use Rattle.edit_base.specs.declared.errors.Error.{Error}
use Rattle.edit_base.specs.declared.errors.Error.TheVariants.{Device}
use Rattle.edit_base.specs.declared.errors.DeviceCall.TheVariants.{Read}
use Rattle.edit_store.specs.Store.{Files, IsRaisedCount}
use Rattle.edit_sources.specs.Configuration.{HasConfiguration, IsMalformedConfig}
use Rattle.url.specs.Parts.{Parts}
use Rattle.edit_sources.specs.Configured.{configuration, paths_of, IsConfigErrorAt, HasAddress, HasNoUrl}
use Rattle.edit_sources.specs.Following.{Follows, StopsFollowing}
use Rattle.edit_sources.specs.Includes.{Include}
use Rattle.edit_sources.specs.declared.config.Config.{Config}

-- the folders above a file, from its own up to the root (own)
pub record IsUpwards (path : List ℕ) (folders : List (List ℕ)) : Type 0 where
  pub start : List ℕ
  pub own : IsFolderOf path start
  pub passed : List (List ℕ)
  pub climbs : Climbs start passed (codes "/")
  pub all : folders ≡ passed ++ codes "/" ∷ []

-- the folders to search: `.cargo` in each folder from the manifest's upwards, and then cargo's home (Cargo
-- reference, "Configuration", Hierarchical structure)
pub record IsSearched (manifest : List ℕ) (home : Option (List ℕ)) (places : List (List ℕ)) : Type 0 where
  pub folders : List (List ℕ)
  pub upwards : IsUpwards manifest folders
  pub all : places ≡ map (λ folder. joined folder (codes ".cargo")) folders ++ option_to_list home

-- the path of the configuration file in a folder: `config` if that file exists, else `config.toml` (Cargo
-- reference, "Configuration", Hierarchical structure)
abbrev pub start_in : Files → List ℕ → List ℕ
start_in files place =
    cond (is_some (files (joined place (codes "config")))) (joined place (codes "config"))
    (joined place (codes "config.toml"))

-- the configuration is that of the file (own)
pub record IsReadFrom (file : List ℕ × List ℕ) (config : Config) : Type 0 where
  pub path : string_bytes config.path ≡ file.0
  pub said : HasConfiguration file.1 (configuration config)

-- from the file at `start`, these configurations were read, and these files are to be read (own)
pub record IsFollowing (files : Files) (start : List ℕ) (pending : List Include) (configs : List Config)
    : Type 0 where
  pub found : List (List ℕ × List ℕ)
  pub follows : Follows files start pending found
  pub read : AllZip IsReadFrom found configs

-- the configurations of the file in a folder and of all that it includes, none where no file exists (own)
abbrev pub AreReadIn : Files → List ℕ → List Config → Type 0
AreReadIn files place configs = IsFollowing files (start_in files place) [] configs

-- the configuration files in these folders, in their order, each before what it includes (own)
pub data AreFilesIn (files : Files) : List (List ℕ) → List (List ℕ × List ℕ) → Type 0 where
  none : AreFilesIn files [] []
  more : (place : List ℕ) (places : List (List ℕ)) (own later : List (List ℕ × List ℕ))
      → Follows files (start_in files place) [] own → AreFilesIn files places later
      → AreFilesIn files (place ∷ places) (own ++ later)

-- the error of a malformed file (own)
pub record IsBadConfig (file : List ℕ × List ℕ) (e : Error) : Type 0 where
  pub named : IsConfigErrorAt file.0 e
  pub nothing : IsMalformedConfig file.1

-- the device failed while a file was read (own)
pub record HasFailed (before now : ℕ) (e : Error) : Type 0 where
  pub is : e ≡ Device Read
  pub counted : IsRaisedCount before now

-- the error of the file at `start` or of a file that it includes (own)
pub record FollowFails (tells : Bool) (files : Files) (start : List ℕ) (e : Error) : Type 0 where
  pub path : List ℕ
  pub named : IsConfigErrorAt path e
  pub stops : tells ≡ true → StopsFollowing files start path

-- the error of a folder: that of its configuration file (own)
abbrev pub FolderFails : Bool → Files → List ℕ → Error → Type 0
FolderFails tells files place e = FollowFails tells files (start_in files place) e

-- the configurations of a manifest: that of each file that is found or included, in order (own)
pub record AreConfigs (files : Files) (manifest : List ℕ) (home : Option (List ℕ))
    (configs : List Config) : Type 0 where
  pub places : List (List ℕ)
  pub searched : IsSearched manifest home places
  pub found : List (List ℕ × List ℕ)
  pub stand : AreFilesIn files places found
  pub each : AllZip IsReadFrom found configs

-- the paths of the files of a manifest's configurations, in their order (own)
pub record AreConfigPaths (files : Files) (manifest : List ℕ) (home : Option (List ℕ))
    (paths : List (List ℕ)) : Type 0 where
  pub configs : List Config
  pub read : AreConfigs files manifest home configs
  pub all : paths ≡ paths_of configs

-- the error of these folders: that of the configuration file in one of them (own)
pub record PlaceFails (tells : Bool) (files : Files) (places : List (List ℕ)) (e : Error) : Type 0 where
  pub place : List ℕ
  pub before : List (List ℕ)
  pub after : List (List ℕ)
  pub within : places ≡ before ++ place ∷ after
  pub fails : FolderFails tells files place e

-- the error of the configurations of a manifest (own)
pub record ConfigsFail (tells : Bool) (files : Files) (manifest : List ℕ) (home : Option (List ℕ))
    (e : Error) : Type 0 where
  pub places : List (List ℕ)
  pub searched : IsSearched manifest home places
  pub fails : PlaceFails tells files places e

-- the first error of these folders: those before it have configurations (own)
pub record IsFirstMalformed (files : Files) (places : List (List ℕ)) (e : Error) : Type 0 where
  pub place : List ℕ
  pub before : List (List ℕ)
  pub after : List (List ℕ)
  pub within : places ≡ before ++ place ∷ after
  pub configs : List Config
  pub found : List (List ℕ × List ℕ)
  pub stand : AreFilesIn files before found
  pub read : AllZip IsReadFrom found configs
  pub fails : FolderFails true files place e

-- the first error of a manifest's configurations (own)
pub record StopsAtConfig (files : Files) (manifest : List ℕ) (home : Option (List ℕ)) (e : Error)
    : Type 0 where
  pub places : List (List ℕ)
  pub searched : IsSearched manifest home places
  pub first : IsFirstMalformed files places e

-- the URL of a registry with the configurations of a manifest (own)
pub record ConfiguredUrl (files : Files) (manifest : List ℕ) (home registry : Option (List ℕ))
    (url : Parts) : Type 0 where
  pub configs : List Config
  pub read : AreConfigs files manifest home configs
  pub address : HasAddress configs registry url

-- the error of a registry that has no URL with the configurations of a manifest (own)
pub record HasNoConfiguredUrl (tells : Bool) (files : Files) (manifest : List ℕ)
    (home registry : Option (List ℕ)) (e : Error) : Type 0 where
  pub configs : List Config
  pub read : tells ≡ true → AreConfigs files manifest home configs
  pub none : HasNoUrl configs registry e
