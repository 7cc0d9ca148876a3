-- The manifests of a workspace to plan for (own).
use Rattle.std.specs.Prelude.{◌≡◌, ◌≢◌, ◌⊎◌, ℕ, List, [], ◌∷◌, ◌++◌, AllPairs, Bool, true, Option, Some, None, codes, Contains, if◌then◌else◌, map, option_map, string_bytes}
use Rattle.std.specs.List.{AllZip, fold}
use Rattle.std.specs.Option.{option_or}
use Rattle.edit_base.specs.FirstCauses.{HasFirstCause}
use Rattle.edit_base.specs.Paths.{IsNormalOf, joined}
use Rattle.edit_base.specs.declared.errors.DeviceCall.TheVariants as call
use Rattle.edit_base.specs.declared.errors.Error.{Error}
use Rattle.edit_base.specs.declared.errors.Error.TheVariants.{NoManifest}
use Rattle.edit_store.specs.Store.{Files, IsCallError, StoreView}
use Rattle.edit_version.specs.RustVersions.{Numbers, is_above, numbers_of}
use Rattle.edit_metadata.specs.Metadata.{PackageModel, WorkspaceModel, members}
use Rattle.edit_metadata.specs.declared.input.Input.{Input}

-- ---- Rust versions

-- the smaller of two Rust versions; if one is absent, the other
abbrev pub min_rust_version : Option Numbers → Option Numbers → Option Numbers
min_rust_version None b = b
min_rust_version (Some a) None = Some a
min_rust_version (Some a) (Some b) = if is_above a b then Some b else Some a

-- the smallest of these Rust versions, none if all are absent
abbrev pub least : List (Option Numbers) → Option Numbers
least versions = fold min_rust_version None versions

-- the options for Rust versions: the given one, and whether those of the manifests are ignored
pub record RustOptions : Type 0 where
  pub given : Option Numbers
  pub ignored : Bool

-- the Rust version to plan for: the given one, else none if they are ignored, else the manifest's own
abbrev pub rust_version_for : RustOptions → Option Numbers → Option Numbers
rust_version_for options own = option_or options.given (if options.ignored then None else own)

-- ---- manifests

-- the model of a manifest of a workspace: its name in reports, its path as written, and its own Rust version
pub record ManifestModel : Type 0 where
  pub name : List ℕ
  pub path : List ℕ
  pub rust_version : Option Numbers

-- the manifest of a package
abbrev pub manifest_of : PackageModel → ManifestModel
manifest_of p = record { name = p.name; path = p.manifest_path; rust_version = p.rust_version }

-- the manifests of the members of these packages, in order
abbrev pub member_manifests : List PackageModel → List ManifestModel
member_manifests ps = map manifest_of (members ps)

-- the manifest in the root of the workspace; its Rust version is the smallest of the members'
abbrev pub root_manifest : WorkspaceModel → ManifestModel
root_manifest w = record {
  name = codes "virtual workspace";
  path = joined w.root (codes "Cargo.toml");
  rust_version = least (map (λ p. p.rust_version) (members w.packages));
}

-- the manifests of a workspace in the order in which they are read: the members', and then the root's
abbrev pub manifests : WorkspaceModel → List ManifestModel
manifests w = member_manifests w.packages ++ root_manifest w ∷ []

-- ---- inputs

-- the input is that of this manifest, except for its bytes
pub record IsInputOf (options : RustOptions) (m : ManifestModel) (i : Input) : Type 0 where
  pub name : string_bytes i.name ≡ m.name
  pub path : IsNormalOf m.path (string_bytes i.path)
  pub rust_version : option_map numbers_of i.rust_version ≡ rust_version_for options m.rust_version

-- the path of an input
abbrev pub path_of : Input → List ℕ
path_of i = string_bytes i.path

-- the paths of inputs
abbrev pub input_paths : List Input → List (List ℕ)
input_paths is = map (λ i. string_bytes i.path) is

-- no two inputs have the same path
abbrev pub HaveOwnPaths : List Input → Type 0
HaveOwnPaths is = AllPairs (λ a b. path_of a ≢ path_of b) is

-- the inputs of a workspace: those of the members in order and, if none of them has the root's path, that of
-- the root before them
pub data AreInputs (options : RustOptions) (w : WorkspaceModel) : List Input → Type 0 where
  of_members : (root : List ℕ) (is : List Input) → AllZip (IsInputOf options) (member_manifests w.packages) is
      → IsNormalOf (root_manifest w).path root → Contains (input_paths is) root → AreInputs options w is
  with_root : (i : Input) (is : List Input) → AllZip (IsInputOf options) (member_manifests w.packages) is
      → IsInputOf options (root_manifest w) i → (Contains (input_paths is) (string_bytes i.path) → ⊥)
      → AreInputs options w (i ∷ is)

-- the input has the bytes of the file at its path
abbrev pub IsReadFrom : Files → Input → Type 0
IsReadFrom files i = files (string_bytes i.path) ≡ Some i.bytes.items

-- ---- errors

-- a file exists at the normalised path of a manifest
pub record HasFile (files : Files) (m : ManifestModel) : Type 0 where
  pub path : List ℕ
  pub is_normal : IsNormalOf m.path path
  pub bytes : List ℕ
  pub present : files path ≡ Some bytes

-- no file exists at the normalised path of a manifest
pub record LacksFile (files : Files) (m : ManifestModel) : Type 0 where
  pub path : List ℕ
  pub is_normal : IsNormalOf m.path path
  pub absent : files path ≡ None

-- no file exists for one of these manifests, and one exists for each manifest before it
abbrev pub HaveMissingFile : Files → List ManifestModel → Type 0
HaveMissingFile files ms = HasFirstCause (HasFile files) (LacksFile files) ms

-- the errors of reading manifests: lack of memory, a fault of the device, or a missing file
abbrev pub IsNoInput : StoreView → StoreView → List ManifestModel → Error → Type 0
IsNoInput old new ms e =
    IsCallError call.Read old new e
    ⊎ ((e ≡ NoManifest) × (old.tells ≡ true → HaveMissingFile old.file_at ms))
