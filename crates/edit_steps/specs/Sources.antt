-- The files that an upgrade depends on, as they were read.
use Rattle.std.specs.Prelude.{◌≡◌, ◌⊎◌, ℕ, List, [], ◌∷◌, Option, Some, None, ⊤, length, map, string_bytes}
use Rattle.edit_metadata.specs.Workspaces.{workspace_view}
use Rattle.edit_metadata.specs.declared.input.Input.{Input}
use Rattle.edit_metadata.specs.declared.workspace.Workspace.{Workspace}
use Rattle.edit_sources.specs.FileIndex.{HoldsLines, HoldsWithheld}
use Rattle.edit_sources.specs.Published.{text_by}
use Rattle.edit_sources.specs.declared.file_index.FileIndex.{FileIndex}
use Rattle.edit_sources.specs.declared.published.PublishedBefore.{PublishedBefore}
use Rattle.edit_steps.specs.Absolute.{IsAbsoluteOf}
use Rattle.edit_metadata.specs.Inputs.{HaveOwnPaths}
use Rattle.edit_steps.specs.Workspaces.{IsWorkspaceRead}
use Rattle.edit_store.specs.Store.{Files}
use Rattle.edit_tree.specs.DocumentViews.{DocumentViews}
use Rattle.edit_steps.specs.RequestView.{RequestView}
use Rattle.edit_steps.specs.Named.{AreConfigured, ArePairRead, Pair}
use Rattle.edit_steps.specs.Own.{IsManifestRead}
use Rattle.edit_steps.specs.Shared.{HasLists, lists_for}
use Rattle.edit_steps.specs.declared.upgrade_read.index.IndexSource.{IndexSource}
use Rattle.edit_steps.specs.declared.upgrade_read.index.IndexSource.TheVariants as source
use Rattle.edit_steps.specs.declared.upgrade_read.sources.Sources.{Sources}
use Rattle.edit_steps.specs.declared.upgrade_read.target.Target.{Target}

-- the manifests to plan for were read: the nearest one, or those of the workspace whose metadata are given
pub data AreInputsRead (files : Files) (current : List ℕ) (asking : RequestView)
    : Option Workspace → List Input → Type 0 where
  found : (input : Input) → asking.metadata ≡ None
      → IsManifestRead files current asking.manifest asking.rust input
      → AreInputsRead files current asking None (input ∷ [])
  members : (named : List ℕ) (w : Workspace) (inputs : List Input) → asking.metadata ≡ Some named
      → IsWorkspaceRead files current named asking.rust (workspace_view w) inputs
      → AreInputsRead files current asking (Some w) inputs

-- the manifests of a target were read
abbrev pub IsTargetRead : Files → List ℕ → RequestView → Target → Type 0
IsTargetRead files current asking target =
    AreInputsRead files current asking target.workspace target.inputs.items

-- the documents are empty, or those parsed from the inputs' bytes
abbrev pub AreDocuments : List DocumentViews → List Input → Type 0
AreDocuments documents inputs =
    (documents ≡ []) ⊎ (map (λ d. d.bytes) documents ≡ map (λ input. input.bytes.items) inputs)

-- the given index file was read: its lines, with a bound those of versions that were published by then, and
-- what the bound held back of each crate
pub record IsIndexAt (bound : Option PublishedBefore) (files : Files) (current named : List ℕ)
    (index : FileIndex) : Type 0 where
  pub path : List ℕ
  pub bytes : List ℕ
  pub at : IsAbsoluteOf current named path
  pub is : files path ≡ Some bytes
  pub holds : HoldsLines index (text_by bound bytes)
  pub withheld : HoldsWithheld index bound bytes

-- the given index: the index file was read where one is given, else the index folder has this path where
-- one is given, else it is the index in files
abbrev pub IsIndexOf : Option PublishedBefore → Files → List ℕ → Option (List ℕ) → Option (List ℕ)
    → IndexSource → Type 0
IsIndexOf bound files current (Some named) dir (source.Lines index) =
    IsIndexAt bound files current named index
IsIndexOf bound files current None (Some dir) (source.Folder path) =
    IsAbsoluteOf current dir (string_bytes path)
IsIndexOf bound files current None None source.Files = ⊤
IsIndexOf bound files current _ _ _ = ⊥

-- the manifests, the given configuration files, and the configurations of each manifest were read
pub record AreRead (files : Files) (current : List ℕ) (home : Option (List ℕ)) (asking : RequestView)
    (s : Sources) : Type 0 where
  pub target : IsTargetRead files current asking s.target
  pub pair : Pair
  pub named : ArePairRead files current asking pair
  pub configured : AreConfigured files home pair s.target.inputs.items (lists_for s.configs)

-- the requirements of a plan hold: each input has a distinct path, and a list of configurations
pub record MayBePlanned (s : Sources) : Type 0 where
  pub paths : HaveOwnPaths s.target.inputs.items
  pub each : length s.configs.which.items ≡ length s.target.inputs.items
  pub lists : HasLists s.configs
  pub documents : AreDocuments s.target.documents.items s.target.inputs.items
