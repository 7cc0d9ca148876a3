-- The strings that are read from the output of `cargo metadata` token by token.
use Rattle.std.specs.Prelude.{◌≡◌, ℕ, List, Some, IfSome, codes, map, option_map}
use Rattle.std.specs.List.{AllZip}
use Rattle.serde_json.specs.Data.{Data}
use Rattle.edit_metadata.specs.Metadata.{IsText, maybe_text_at, text_at, values_at}
use Rattle.edit_metadata.specs.declared.package_texts.PackageTexts.{PackageTexts}
use Rattle.edit_metadata.specs.declared.workspace_texts.WorkspaceTexts.{WorkspaceTexts}

-- the strings are those of a package's value
pub record HasPackageTexts (d : Data) (p : PackageTexts) : Type 0 where
  pub name : text_at (codes "name") d ≡ option_map (λ s. s.now) p.name
  pub id : text_at (codes "id") d ≡ option_map (λ s. s.now) p.id
  pub manifest_path : text_at (codes "manifest_path") d ≡ option_map (λ s. s.now) p.manifest_path
  pub version : text_at (codes "version") d ≡ option_map (λ s. s.now) p.version
  pub source : maybe_text_at (codes "source") d ≡ Some (option_map (λ s. s.now) p.source)
  pub rust_version : maybe_text_at (codes "rust_version") d ≡ Some (option_map (λ s. s.now) p.rust_version)

-- the member `packages` of the value is an array of these packages
abbrev pub HasPackages : Data → List PackageTexts → Type 0
HasPackages d ps = (said : List Data) × (values_at (codes "packages") d ≡ Some said)
    × AllZip HasPackageTexts said ps

-- the member `workspace_members` of the value is an array of these ids
abbrev pub HasMemberIds : Data → List (List ℕ) → Type 0
HasMemberIds d ids = (listed : List Data) × (values_at (codes "workspace_members") d ≡ Some listed)
    × AllZip IsText listed ids

-- the strings are those of the output's value, as far as they were read
pub record HasWorkspaceTexts (d : Data) (w : WorkspaceTexts) : Type 0 where
  pub root : IfSome w.root (λ s. text_at (codes "workspace_root") d ≡ Some s.now)
  pub ids : IfSome w.ids (λ v. HasMemberIds d (map (λ s. s.now) v.items))
  pub packages : IfSome w.packages (λ v. HasPackages d v.items)
