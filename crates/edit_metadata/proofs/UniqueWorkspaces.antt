-- The workspace of a JSON value is unique, and the versions of its packages can be parsed.
use Rattle.std.proofs.Common.{◌≡◌, ℕ, zero, suc, ◌<◌, List, [], ◌∷◌, length, map, Option, Some, None, Result, Ok, Err, Bool, refl, ap, sym, ◌∙◌, subst, arith}
use Rattle.std.specs.Prelude.{option_and_then, slice_index_or, codes}
use Rattle.std.specs.List.{AllZip}
use Rattle.std.specs.Result.{result_ok}
use Rattle.semver.specs.Identifiers.{parts_of}
use Rattle.semver.specs.Parse.{Parts, version_parts}
use Rattle.semver.specs.declared.error.Error as semver_error
use Rattle.serde_json.specs.Data.{Data}
use Rattle.edit_version.specs.Laws.{IsReadable}
use Rattle.edit_version.specs.ReadVersion.{version_read}
use Rattle.edit_version.proofs.Outcomes.{readable-read}
use Rattle.edit_metadata.specs.Metadata.{IsText, PackageModel, IsPackageValue, IsWorkspaceValue, WorkspaceModel, is_listed, text_at, values_at}
use Rattle.edit_metadata.specs.Workspaces.{package_view}
use Rattle.edit_metadata.specs.declared.workspace.Package.{Package}
use Rattle.edit_metadata.proofs.Values.{some-same}
use Rattle.edit_metadata.proofs.Zipped.{zipped-as, zipped-once}

-- ---- versions

read-ok : (text : List ℕ) (r : Result Parts semver_error.Error) (v : Parts) → version_parts text ≡ r
    → result_ok r ≡ Some v → IsReadable v
read-ok text (Ok p) v read is = readable-read text v (read ∙ ap Ok (some-same p v is))
read-ok text (Err e) v read is = cc is

read-some : (text : Option (List ℕ)) (v : Parts) → option_and_then version_read text ≡ Some v → IsReadable v
read-some None v is = cc is
read-some (Some text) v is = read-ok text (version_parts text) v refl is

-- the versions of packages that were read can be parsed
pub versions-readable : (listed : List ℕ → Bool) (ds : List Data) (ps : List Package)
    → AllZip (IsPackageValue listed) ds (map package_view ps)
    → (k : ℕ) (p : Package) → k < length ps → IsReadable (parts_of (slice_index_or ps k p).version)
versions-readable listed ds [] all k p within = absurd (omega arith)
versions-readable listed [] (q ∷ ps) all k p within = absurd all
versions-readable listed (d ∷ ds) (q ∷ ps) all zero p within = read-some (text_at (codes "version") d)
    (parts_of q.version) all.0.version
versions-readable listed (d ∷ ds) (q ∷ ps) all (suc k) p within = versions-readable listed ds ps all.1 k p
    (omega (arith, within))

-- ---- ids

-- a package, if the same ids are listed
pub says-as : (f g : List ℕ → Bool) → ((id : List ℕ) → f id ≡ g id) → (d : Data) (p : PackageModel)
    → IsPackageValue f d p → IsPackageValue g d p
says-as f g same d p says = record {
  name = says.name;
  id = says.id;
  manifest_path = says.manifest_path;
  absolute = says.absolute;
  version = says.version;
  source = says.source;
  rust_version = says.rust_version;
  member = says.member ∙ same p.id;
}

-- packages, if the same ids are listed
pub packages-as : (f g : List ℕ → Bool) → ((id : List ℕ) → f id ≡ g id)
    → (ds : List Data) (ps : List PackageModel)
    → AllZip (IsPackageValue f) ds ps → AllZip (IsPackageValue g) ds ps
packages-as f g same ds ps = zipped-as (IsPackageValue f) (IsPackageValue g) ds ps (says-as f g same)

-- the list of the members' ids is unique
pub ids-once : (ds : List Data) (xs ys : List (List ℕ)) → AllZip IsText ds xs → AllZip IsText ds ys → xs ≡ ys
ids-once ds xs ys = zipped-once IsText ds xs ys (λ d x y a b. some-same x y (sym a ∙ b))

-- the packages of a workspace, given its values and ids
pub packages-within : (d : Data) (w : WorkspaceModel) (listed said : List Data) (ids : List (List ℕ))
    → IsWorkspaceValue d w
    → values_at (codes "workspace_members") d ≡ Some listed → AllZip IsText listed ids
    → values_at (codes "packages") d ≡ Some said
    → AllZip (IsPackageValue (is_listed ids)) said w.packages
packages-within d w listed said ids says members are packages =
    let same = some-same says.listed listed (sym says.has_members ∙ members) in
    let own = ids-once listed says.ids ids (subst (λ xs. AllZip IsText xs says.ids) same says.are_ids) are in
    subst (λ xs. AllZip (IsPackageValue (is_listed xs)) said w.packages) own
    (subst (λ xs. AllZip (IsPackageValue (is_listed says.ids)) xs w.packages)
    (some-same says.values said (sym says.has_packages ∙ packages)) says.packages)
