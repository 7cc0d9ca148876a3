-- Finding a manifest.
use Rattle.std.specs.Prelude.{◌≡◌, ◌⊎◌, ℕ, List, ◌∷◌, [], ◌++◌, All, Option, Some, None, codes, string_bytes}
use Rattle.edit_base.specs.Errors.{IsMemory}
use Rattle.edit_base.specs.Paths.{IsNormalOf, joined}
use Rattle.edit_base.specs.declared.errors.DeviceCall.{DeviceCall}
use Rattle.edit_base.specs.declared.errors.Error.{Error}
use Rattle.edit_base.specs.declared.errors.Error.TheVariants.{Device, ManifestNotFound, NoPath}
use Rattle.edit_store.specs.Climbs.{Climbs}
use Rattle.edit_store.specs.Store.{Files, HasKindAt, IsRaisedCount}
use Rattle.edit_store.specs.declared.store.Kind.TheVariants.{File, Folder, Absent}

-- the path of the manifest in a folder
abbrev pub manifest_in : List ℕ → List ℕ
manifest_in folder = joined folder (codes "Cargo.toml")

-- a file or a folder exists at the path
abbrev pub IsThere : Files → List ℕ → Type 0
IsThere files path = HasKindAt files path File ⊎ HasKindAt files path Folder

-- nothing exists at the path
abbrev pub IsMissing : Files → List ℕ → Type 0
IsMissing files path = HasKindAt files path Absent

-- none of the folders has a manifest
abbrev pub HaveNoManifest : Files → List (List ℕ) → Type 0
HaveNoManifest files folders = All (λ folder. IsMissing files (manifest_in folder)) folders

-- the path of the manifest in the folder, or else in the nearest folder above it that has one
pub record IsNearest (files : Files) (start path : List ℕ) : Type 0 where
  pub passed : List (List ℕ)
  pub folder : List ℕ
  pub climbs : Climbs start passed folder
  pub none : HaveNoManifest files passed
  pub there : IsThere files (manifest_in folder)
  pub is : path ≡ manifest_in folder

-- the path of the manifest at a place: the place itself if it is a file; if it is a folder, the nearest
-- manifest from there upwards
pub data IsManifestAt (files : Files) (place : List ℕ) : List ℕ → Type 0 where
  named : HasKindAt files place File → IsManifestAt files place place
  nearest : (path : List ℕ) → HasKindAt files place Folder → IsNearest files place path
      → IsManifestAt files place path

-- the path of the specified manifest, or, if none is specified, of the nearest one from the current folder
-- upwards
pub data IsManifestPath (files : Files) (current : List ℕ) : Option (List ℕ) → List ℕ → Type 0 where
  specified : (name place path : List ℕ) → IsNormalOf (joined current name) place
      → IsManifestAt files place path → IsManifestPath files current (Some name) path
  unspecified : (place path : List ℕ) → IsNormalOf current place → IsNearest files place path
      → IsManifestPath files current None path

-- no folder from this one up to the root has a manifest
pub record HasNoneAbove (files : Files) (start : List ℕ) : Type 0 where
  pub passed : List (List ℕ)
  pub climbs : Climbs start passed (codes "/")
  pub none : HaveNoManifest files (passed ++ codes "/" ∷ [])

-- the error is `ManifestNotFound` with this folder
abbrev pub NamesFolder : List ℕ → Error → Type 0
NamesFolder start (ManifestNotFound dir) = string_bytes dir ≡ start
NamesFolder start other = ⊥

-- the error `ManifestNotFound` has the folder where the search started
abbrev pub IsNotFound : Files → List ℕ → Error → Type 0
IsNotFound files start e = NamesFolder start e × HasNoneAbove files start

-- the errors of a search at a place: nothing exists there, or it is a folder and none from there upwards has
-- a manifest
abbrev pub IsSearchError : Files → List ℕ → Error → Type 0
IsSearchError files place e =
    ((e ≡ NoPath) × IsMissing files place) ⊎ (HasKindAt files place Folder × IsNotFound files place e)

-- the errors of finding the specified manifest, or, if none is specified, one from the current folder
-- upwards
pub data HasNoManifest (files : Files) (current : List ℕ) (e : Error) : Option (List ℕ) → Type 0 where
  specified : (name place : List ℕ) → IsNormalOf (joined current name) place → IsSearchError files place e
      → HasNoManifest files current e (Some name)
  unspecified : (place : List ℕ) → IsNormalOf current place → IsNotFound files place e
      → HasNoManifest files current e None

-- the errors of finding a manifest, for any store: nothing exists at the specified path, or no folder has a
-- manifest, and the error has the folder where the search started
abbrev pub NamesStart : List ℕ → Option (List ℕ) → Error → Type 0
NamesStart current (Some name) e =
    (e ≡ NoPath) ⊎ ((place : List ℕ) × IsNormalOf (joined current name) place × NamesFolder place e)
NamesStart current None e = (place : List ℕ) × IsNormalOf current place × NamesFolder place e

-- lack of memory, or the device failed in this call and the count of faults rose
abbrev pub IsFault : DeviceCall → ℕ → ℕ → Error → Type 0
IsFault call before now e = IsMemory e ⊎ ((e ≡ Device call) × IsRaisedCount before now)
