-- The models of workspaces, and the errors of reading one.
use Rattle.std.specs.Prelude.{◌≡◌, ◌⊎◌, ◌&&◌, ℕ, Bool, List, map, option_map, string_bytes}
use Rattle.std.specs.Str.{bytes_eq}
use Rattle.semver.specs.Identifiers.{parts_of}
use Rattle.edit_base.specs.Errors.{IsMemory}
use Rattle.edit_base.specs.declared.errors.Error.{Error}
use Rattle.edit_base.specs.declared.errors.Error.TheVariants.{Metadata}
use Rattle.edit_version.specs.RustVersions.{numbers_of}
use Rattle.edit_metadata.specs.Folders.{HaveOwnFolders, ShareNamed}
use Rattle.edit_metadata.specs.Metadata.{AreMetadata, PackageModel, WorkspaceModel, members}
use Rattle.edit_metadata.specs.declared.workspace.Package.{Package}
use Rattle.edit_metadata.specs.declared.workspace.Workspace.{Workspace}

-- the model of a package
abbrev pub package_view : Package → PackageModel
package_view p = record {
  name = string_bytes p.name;
  id = string_bytes p.id;
  manifest_path = string_bytes p.manifest_path;
  version = parts_of p.version;
  source = option_map string_bytes p.source;
  rust_version = option_map numbers_of p.rust_version;
  member = p.member;
}

-- the models of packages, in order
abbrev pub packages_view : List Package → List PackageModel
packages_view ps = map package_view ps

-- the model of a workspace
abbrev pub workspace_view : Workspace → WorkspaceModel
workspace_view w = record { root = string_bytes w.root; packages = packages_view w.packages.items }

-- the paths of the members' manifests, in order
abbrev pub member_paths : List PackageModel → List (List ℕ)
member_paths ps = map (λ p. p.manifest_path) (members ps)

-- the manifests of the members are in folders of their own
abbrev pub HasOwnFolders : WorkspaceModel → Type 0
HasOwnFolders w = HaveOwnFolders (member_paths w.packages)

-- the bytes are not the output of `cargo metadata` for any workspace
abbrev pub HaveNoWorkspace : List ℕ → Type 0
HaveNoWorkspace bytes = (w : WorkspaceModel) → AreMetadata bytes w → ⊥

-- the bytes are the output for a workspace, of which two members share the folder of the error
pub record HaveSharedFolder (bytes : List ℕ) (e : Error) : Type 0 where
  pub workspace : WorkspaceModel
  pub said : AreMetadata bytes workspace
  pub shared : ShareNamed (member_paths workspace.packages) e

-- the errors of reading a workspace: lack of memory, malformed output, or two members that share a folder
abbrev pub IsNoWorkspace : List ℕ → Error → Type 0
IsNoWorkspace bytes e = IsMemory e ⊎ (((e ≡ Metadata) × HaveNoWorkspace bytes) ⊎ HaveSharedFolder bytes e)

-- the package is a member of this name
abbrev pub is_member_named : List ℕ → Package → Bool
is_member_named name p = p.member && bytes_eq (string_bytes p.name) name
