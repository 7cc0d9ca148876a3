-- The causes of errors of reading the files that an upgrade depends on.
use Rattle.std.specs.Prelude.{◌≡◌, ◌⊎◌, ◌++◌, ◌∷◌, ℕ, List, Option, Some, None, string_bytes, true}
use Rattle.std.specs.Global.{Vec}
use Rattle.edit_base.specs.declared.errors.DeviceCall.TheVariants as call
use Rattle.edit_base.specs.declared.errors.Error.{Error}
use Rattle.edit_base.specs.declared.errors.Error.TheVariants.{NoManifest, NoPath}
use Rattle.edit_manifest.specs.Loaded.{IsBadManifest}
use Rattle.edit_manifest.specs.Located.{HasNoManifest, IsManifestPath}
use Rattle.edit_metadata.specs.declared.input.Input.{Input}
use Rattle.edit_metadata.specs.declared.workspace.Workspace.{Workspace}
use Rattle.edit_sources.specs.ConfigurationFiles.{AreConfigs, StopsAtConfig}
use Rattle.edit_sources.specs.IndexLines.{IsLinesError, lines_of}
use Rattle.edit_sources.specs.declared.config.Config.{Config}
use Rattle.edit_steps.specs.Absolute.{IsAbsoluteOf}
use Rattle.edit_steps.specs.Workspaces.{HasNoWorkspace}
use Rattle.edit_store.specs.Store.{Files, IsCallError, HasKindAt, StoreView}
use Rattle.edit_store.specs.declared.store.Kind.TheVariants.{Folder}
use Rattle.edit_steps.specs.RequestView.{RequestView}
use Rattle.edit_steps.specs.Named.{AreConfigured, ArePairRead, AreConfigsIn, HasNoFile, IsUnreadFile, Pair}
use Rattle.edit_steps.specs.Sources.{AreInputsRead}

-- out of memory, or a device error in a read, which is counted
abbrev pub IsFailure : StoreView → StoreView → Error → Type 0
IsFailure old new e = IsCallError call.Kind old new e ⊎ IsCallError call.Read old new e

-- a folder is at the path of the manifest
pub record IsFolderThere (files : Files) (current : List ℕ) (named : Option (List ℕ)) (e : Error)
    : Type 0 where
  pub path : List ℕ
  pub at : IsManifestPath files current named path
  pub folder : HasKindAt files path Folder
  pub is : e ≡ NoManifest

-- the bytes of the file are no manifest
pub record IsNoManifest (files : Files) (current : List ℕ) (named : Option (List ℕ)) (e : Error)
    : Type 0 where
  pub path : List ℕ
  pub bytes : List ℕ
  pub at : IsManifestPath files current named path
  pub is : files path ≡ Some bytes
  pub bad : IsBadManifest bytes e

-- the cause of an error of reading the manifest: none is found, a folder is there, or its bytes are no
-- manifest
abbrev pub IsManifestCause : Files → List ℕ → Option (List ℕ) → Error → Type 0
IsManifestCause files current named e =
    HasNoManifest files current e named
    ⊎ (IsFolderThere files current named e ⊎ IsNoManifest files current named e)

-- the cause of an error of reading the manifests: the nearest manifest, or the given workspace, cannot be
-- read
pub data HasNoTarget (files : Files) (current : List ℕ) (asking : RequestView) (e : Error) : Type 0 where
  no_manifest : asking.metadata ≡ None → IsManifestCause files current asking.manifest e
      → HasNoTarget files current asking e
  no_workspace : (named : List ℕ) → asking.metadata ≡ Some named → HasNoWorkspace files current named e
      → HasNoTarget files current asking e

-- why the configurations of a manifest are not read: the file that is named first is malformed; or it was
-- read and one of the manifest's own is malformed; or all these were read and the file that is named last is
-- malformed
pub data IsUngathered (files : Files) (home : Option (List ℕ)) (pair : Pair) (manifest : List ℕ) (e : Error)
    : Type 0 where
  at_first : IsUnreadFile pair.first e → IsUngathered files home pair manifest e
  at_own : (first : List Config) → AreConfigsIn pair.first first → StopsAtConfig files manifest home e
      → IsUngathered files home pair manifest e
  at_last : (first own : List Config) → AreConfigsIn pair.first first → AreConfigs files manifest home own
      → IsUnreadFile pair.last e → IsUngathered files home pair manifest e

-- the configurations of one input are not read, and those of all inputs before it were
pub record StopsAtInput (files : Files) (home : Option (List ℕ)) (pair : Pair) (inputs : List Input)
    (e : Error) : Type 0 where
  pub before : List Input
  pub input : Input
  pub behind : List Input
  pub within : inputs ≡ before ++ input ∷ behind
  pub configs : List (Vec Config)
  pub gathered : AreConfigured files home pair before configs
  pub fails : IsUngathered files home pair (string_bytes input.path) e

-- the cause of an error of an index file: it is missing, or one of its lines is invalid
abbrev pub IsUnindexed : Option (List ℕ) → Error → Type 0
IsUnindexed None e = e ≡ NoPath
IsUnindexed (Some bytes) e = IsLinesError (lines_of bytes) e

-- the cause of an error of reading the given index file
pub record IsIndexCause (files : Files) (current named : List ℕ) (e : Error) : Type 0 where
  pub path : List ℕ
  pub at : IsAbsoluteOf current named path
  pub unindexed : IsUnindexed (files path) e

-- an index file is given, and it cannot be read
pub record HasNoIndex (files : Files) (current : List ℕ) (index : Option (List ℕ)) (e : Error)
    : Type 0 where
  pub named : List ℕ
  pub is : index ≡ Some named
  pub cause : IsIndexCause files current named e

-- a given configuration file is missing
abbrev pub LacksNamed : Files → List ℕ → RequestView → Error → Type 0
LacksNamed files current asking e =
    HasNoFile files current asking.config e ⊎ HasNoFile files current asking.default_config e

-- the manifests were read, and a given configuration file is missing
pub record StopsAtNamed (files : Files) (current : List ℕ) (asking : RequestView) (e : Error) : Type 0 where
  pub workspace : Option Workspace
  pub inputs : List Input
  pub read : AreInputsRead files current asking workspace inputs
  pub cause : LacksNamed files current asking e

-- the manifests and the given configuration files were read, and the first malformed configuration file is
-- the error
pub record StopsAtConfigs (files : Files) (current : List ℕ) (home : Option (List ℕ)) (asking : RequestView)
    (e : Error) : Type 0 where
  pub workspace : Option Workspace
  pub inputs : List Input
  pub pair : Pair
  pub read : AreInputsRead files current asking workspace inputs
  pub named : ArePairRead files current asking pair
  pub cause : StopsAtInput files home pair inputs e

-- the cause in the files: the manifests or metadata, else a given configuration file, else a configuration
abbrev pub HasBadSources : Files → List ℕ → Option (List ℕ) → RequestView → Error → Type 0
HasBadSources files current home asking e =
    HasNoTarget files current asking e
    ⊎ (StopsAtNamed files current asking e ⊎ StopsAtConfigs files current home asking e)

-- the cause of an error: out of memory, a device error, or the files
abbrev pub IsReadCause : List ℕ → Option (List ℕ) → RequestView → StoreView → StoreView → Error → Type 0
IsReadCause current home asking old new e =
    IsFailure old new e ⊎ (old.tells ≡ true → HasBadSources old.file_at current home asking e)
