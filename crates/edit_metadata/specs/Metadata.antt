-- The workspace in the output of `cargo metadata` (The Cargo Book, "cargo metadata", JSON format).
use Rattle.std.specs.Prelude.{◌≡◌, ℕ, List, [], ◌∷◌, Option, Some, None, option_map, option_and_then, Bool, true, ◌&&◌, not, codes, nat_eq}
use Rattle.std.specs.List.{AllZip, filter, list_any, starts_with}
use Rattle.std.specs.Str.{IsUtf8, bytes_eq}
use Rattle.semver.specs.Parse.{Parts}
use Rattle.serde_json.specs.Data.{Data, null, string, Items, no_items, item}
use Rattle.serde_json.specs.Find.{get, as_array, as_str}
use Rattle.serde_json.specs.Read.{read}
use Rattle.edit_version.specs.ReadVersion.{version_read}
use Rattle.edit_version.specs.RustVersions.{Numbers, rust_of}

-- ---- members of an object

-- the string of a member, if it holds one
abbrev pub text_at : List ℕ → Data → Option (List ℕ)
text_at name d = option_and_then as_str (get name d)

-- the string of a member that may be absent or null; none where it holds anything else
abbrev pub maybe_text : Option Data → Option (Option (List ℕ))
maybe_text None = Some None
maybe_text (Some null) = Some None
maybe_text (Some (string text)) = Some (Some text)
maybe_text (Some other) = None

-- the string of the member of this name, which may be absent or null; none where it holds anything else
abbrev pub maybe_text_at : List ℕ → Data → Option (Option (List ℕ))
maybe_text_at name d = maybe_text (get name d)

-- the elements of an array
abbrev pub values : Items → List Data
values no_items = []
values (item d ds) = d ∷ values ds

-- the elements of a member, if it holds an array
abbrev pub values_at : List ℕ → Data → Option (List Data)
values_at name d = option_map values (option_and_then as_array (get name d))

-- the value is this string
abbrev pub IsText : Data → List ℕ → Type 0
IsText d text = as_str d ≡ Some text

-- a path that begins with `/`
abbrev pub is_absolute : List ℕ → Bool
is_absolute path = starts_with nat_eq path (codes "/")

-- a path that begins with `/` and has no line end: a call of cargo, stored as lines, names the root (own)
abbrev pub is_root_path : List ℕ → Bool
is_root_path path = is_absolute path && not (list_any (λ byte. nat_eq byte 10) path)

-- ---- packages

-- the model of a package
pub record PackageModel : Type 0 where
  pub name : List ℕ
  pub id : List ℕ
  pub manifest_path : List ℕ
  pub version : Parts
  pub source : Option (List ℕ)
  pub rust_version : Option Numbers
  pub member : Bool

-- the version of a package, if it is a string with a valid version (SemVer 2.0.0)
abbrev pub version_in_value : Data → Option Parts
version_in_value d = option_and_then version_read (text_at (codes "version") d)

-- the Rust version of a package; an invalid one counts as absent (own)
abbrev pub rust_version_in_value : Data → Option (Option Numbers)
rust_version_in_value d =
    option_map (λ text. option_and_then rust_of text) (maybe_text_at (codes "rust_version") d)

-- whether an id is one of the members'
abbrev pub is_listed : List (List ℕ) → List ℕ → Bool
is_listed ids id = list_any (λ listed. bytes_eq listed id) ids

-- the package of a JSON object, given a test for the ids of members (The Cargo Book, "cargo metadata",
-- packages)
pub record IsPackageValue (listed : List ℕ → Bool) (d : Data) (p : PackageModel) : Type 0 where
  pub name : text_at (codes "name") d ≡ Some p.name
  pub id : text_at (codes "id") d ≡ Some p.id
  pub manifest_path : text_at (codes "manifest_path") d ≡ Some p.manifest_path
  pub absolute : is_absolute p.manifest_path ≡ true
  pub version : version_in_value d ≡ Some p.version
  pub source : maybe_text_at (codes "source") d ≡ Some p.source
  pub rust_version : rust_version_in_value d ≡ Some p.rust_version
  pub member : p.member ≡ listed p.id

-- the packages that are members, in their order
abbrev pub members : List PackageModel → List PackageModel
members ps = filter (λ p. p.member) ps

-- ---- the workspace

-- the model of a workspace: its root, and its packages in their order
pub record WorkspaceModel : Type 0 where
  pub root : List ℕ
  pub packages : List PackageModel

-- the workspace of a JSON value (The Cargo Book, "cargo metadata", workspace_root, workspace_members)
pub record IsWorkspaceValue (d : Data) (w : WorkspaceModel) : Type 0 where
  pub root : text_at (codes "workspace_root") d ≡ Some w.root
  pub absolute : is_root_path w.root ≡ true
  pub listed : List Data
  pub has_members : values_at (codes "workspace_members") d ≡ Some listed
  pub ids : List (List ℕ)
  pub are_ids : AllZip IsText listed ids
  pub values : List Data
  pub has_packages : values_at (codes "packages") d ≡ Some values
  pub packages : AllZip (IsPackageValue (is_listed ids)) values w.packages

-- the bytes are the JSON of a value with this workspace
pub record AreMetadata (bytes : List ℕ) (w : WorkspaceModel) : Type 0 where
  pub utf8 : IsUtf8 bytes
  pub value : Data
  pub reads : read bytes ≡ Some value
  pub says : IsWorkspaceValue value w
