-- The workspace of a command, read from a metadata file and from manifests (own).
use Rattle.std.specs.Prelude.{◌≡◌, ◌⊎◌, ℕ, List, All, Option, Some, None}
use Rattle.edit_base.specs.declared.errors.Error.{Error}
use Rattle.edit_base.specs.declared.errors.Error.TheVariants.{NoManifest, NoPath}
use Rattle.edit_metadata.specs.Inputs.{AreInputs, IsReadFrom, HaveMissingFile, RustOptions, manifests}
use Rattle.edit_metadata.specs.Metadata.{AreMetadata, WorkspaceModel}
use Rattle.edit_metadata.specs.Workspaces.{IsNoWorkspace}
use Rattle.edit_metadata.specs.declared.input.Input.{Input}
use Rattle.edit_store.specs.Store.{Files}
use Rattle.edit_steps.specs.Absolute.{IsAbsoluteOf}

-- the given file was read, and its metadata describe this workspace
pub record AreMetadataRead (files : Files) (current named : List ℕ) (w : WorkspaceModel) : Type 0 where
  pub path : List ℕ
  pub bytes : List ℕ
  pub at : IsAbsoluteOf current named path
  pub is : files path ≡ Some bytes
  pub say : AreMetadata bytes w

-- a workspace was read: its metadata, and its manifests
pub record IsWorkspaceRead (files : Files) (current named : List ℕ) (options : RustOptions)
    (w : WorkspaceModel)
    (inputs : List Input) : Type 0 where
  pub metadata : AreMetadataRead files current named w
  pub are : AreInputs options w inputs
  pub bytes : All (IsReadFrom files) inputs

-- the cause of an error of metadata: the file is missing, or its bytes are no metadata
abbrev pub HasBadMetadataBytes : Option (List ℕ) → Error → Type 0
HasBadMetadataBytes None e = e ≡ NoPath
HasBadMetadataBytes (Some bytes) e = IsNoWorkspace bytes e

-- the cause of an error of reading the given metadata
pub record HasNoMetadata (files : Files) (current named : List ℕ) (e : Error) : Type 0 where
  pub path : List ℕ
  pub at : IsAbsoluteOf current named path
  pub unsaid : HasBadMetadataBytes (files path) e

-- the metadata were read, and the file of one of their manifests is missing
pub record LacksManifest (files : Files) (current named : List ℕ) (e : Error) : Type 0 where
  pub workspace : WorkspaceModel
  pub metadata : AreMetadataRead files current named workspace
  pub is : e ≡ NoManifest
  pub lacks : HaveMissingFile files (manifests workspace)

-- the cause in the files of a workspace that cannot be read
abbrev pub HasNoWorkspace : Files → List ℕ → List ℕ → Error → Type 0
HasNoWorkspace files current named e =
    HasNoMetadata files current named e ⊎ LacksManifest files current named e
