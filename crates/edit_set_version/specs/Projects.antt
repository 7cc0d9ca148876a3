-- The project of a workspace and its inputs (own).
use Rattle.std.specs.Prelude.{◌≡◌, ℕ, List, Contains}
use Rattle.std.specs.List.{AllZip}
use Rattle.edit_base.specs.Paths.{IsNormalOf}
use Rattle.edit_syntax.specs.Grammar.{Text}
use Rattle.edit_tree.specs.Assertions.{IsDocument, Place}
use Rattle.edit_tree.specs.Tree.{view_at}
use Rattle.edit_manifest.specs.Tables.{Tree}
use Rattle.edit_metadata.specs.Inputs.{AreInputs, RustOptions, path_of, root_manifest}
use Rattle.edit_metadata.specs.Metadata.{PackageModel, WorkspaceModel, members}
use Rattle.edit_metadata.specs.declared.input.Input.{Input}
use Rattle.edit_set_version.specs.Chosen.{Member}
use Rattle.edit_set_version.specs.PlanLines.{Named}
use Rattle.edit_set_version.specs.SetVersioned.{Project}

-- the inputs are the manifests of the workspace, for any Rust version
abbrev pub AreInputsOf : WorkspaceModel → List Input → Type 0
AreInputsOf w inputs = (options : RustOptions) × AreInputs options w inputs

-- the tree is that of the manifest at a path
pub record IsTreeAt (inputs : List Input) (path : List ℕ) (tree : Tree) : Type 0 where
  pub input : Input
  pub among : Contains inputs input
  pub at : path_of input ≡ path
  pub form : Text
  pub manifest : IsDocument input.bytes.items form
  pub is : (q : Place) → tree q ≡ view_at form q

-- the manifest of an input is one of these
pub record IsManifestAmong (ms : List Named) (input : Input) : Type 0 where
  pub named : Named
  pub among : Contains ms named
  pub at : named.path ≡ path_of input
  pub form : Text
  pub manifest : IsDocument input.bytes.items form
  pub is : (q : Place) → named.tree q ≡ view_at form q

-- the member has the name and the version of this package, and the manifest at the package's path
pub record IsMemberOf (inputs : List Input) (p : PackageModel) (m : Member) : Type 0 where
  pub name : m.name ≡ p.name
  pub version : m.version ≡ p.version
  pub path : IsNormalOf p.manifest_path m.path
  pub tree : IsTreeAt inputs m.path m.tree

-- the project of a workspace: its root manifest, and those of the members in order
pub record IsProject (w : WorkspaceModel) (inputs : List Input) (p : Project) : Type 0 where
  pub path : IsNormalOf (root_manifest w).path p.path
  pub tree : IsTreeAt inputs p.path p.tree
  pub members : AllZip (IsMemberOf inputs) (members w.packages) p.members

-- the inputs are manifests, and the property holds of their project
pub record HasProject (w : WorkspaceModel) (inputs : List Input) (P : Project → Type 0) : Type 0 where
  pub project : Project
  pub is : IsProject w inputs project
  pub holds : P project
