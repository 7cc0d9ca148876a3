-- The steps in which a configuration file and all that it includes are read (own).
use Rattle.std.specs.Prelude.{◌≡◌, ℕ, List, [], ◌∷◌, ◌++◌, Bool, true, Option, Some, None, String, Vec, string_bytes}
use Rattle.std.specs.declared.alloc.Global.{Global}
use Rattle.edit_base.specs.declared.errors.Error.{Error}
use Rattle.edit_store.specs.Store.{Files}
use Rattle.edit_sources.specs.ConfigurationFiles.{IsFollowing}
use Rattle.edit_sources.specs.Configured.{IsConfigErrorAt}
use Rattle.edit_sources.specs.Following.{StopsFollowing}
use Rattle.edit_sources.specs.Includes.{Include}
use Rattle.edit_sources.specs.declared.config.Config.{Config}

-- the next file to be read, before these, exists and has these bytes (own)
pub record HasNext (files : Files) (start : List ℕ) (pending : List Include) (configs : List Config)
    (path bytes : List ℕ) : Type 0 where
  pub next : Include
  pub following : IsFollowing files start (pending ++ next ∷ []) configs
  pub at : next.path ≡ path
  pub stands : files path ≡ Some bytes

-- the next file that exists was taken from those to be read, with its path and its bytes, if there is one
-- (own)
abbrev pub TakesNext : Files → List Include → List Include → Option (String Global × Vec ℕ Global) → Type 0
TakesNext files old new None = (start : List ℕ) (configs : List Config)
    → IsFollowing files start old configs → IsFollowing files start [] configs
TakesNext files old new (Some file) = (start : List ℕ) (configs : List Config)
    → IsFollowing files start old configs
    → HasNext files start new configs (string_bytes file.0) file.1.items

-- the error of the files to be read: one of them is absent (own)
pub record NextFails (tells : Bool) (files : Files) (pending : List Include) (e : Error) : Type 0 where
  pub path : List ℕ
  pub named : IsConfigErrorAt path e
  pub stops : tells ≡ true → (start : List ℕ) (configs : List Config)
      → IsFollowing files start pending configs → StopsFollowing files start path

-- a file was read (own)
abbrev pub AddsFile : List ℕ → List ℕ → List Include → List Config → List Include → List Config → Type 0
AddsFile path bytes pending configs new_pending new_configs = (files : Files) (start : List ℕ)
    → HasNext files start pending configs path bytes → IsFollowing files start new_pending new_configs

-- a file cannot be read (own)
abbrev pub StopsAtFile : List ℕ → List ℕ → List Include → List Config → Type 0
StopsAtFile path bytes pending configs = (files : Files) (start : List ℕ)
    → HasNext files start pending configs path bytes → StopsFollowing files start path
