-- Examples of the inputs of a workspace.
use Rattle.std.proofs.Common.{◌≡◌, ℕ, Bool, List, true, false, [], ◌∷◌, Some, None, refl}
use Rattle.std.specs.Prelude.{codes}
use Rattle.semver.specs.Parse.{Parts}
use Rattle.edit_version.specs.RustVersions.{Numbers}
use Rattle.edit_metadata.specs.Inputs.{least, member_manifests, root_manifest, rust_version_for}
use Rattle.edit_metadata.specs.Metadata.{PackageModel, WorkspaceModel}

-- a version
abbrev first : Parts
first = (1, 0, 0, [], [])

-- a package: its name, its manifest, its Rust version, and whether it is a member
abbrev said : List ℕ → List ℕ → Numbers → Bool → PackageModel
said name manifest_path rust_version member = record {
  name = name;
  id = name;
  manifest_path = manifest_path;
  version = first;
  source = None;
  rust_version = Some rust_version;
  member = member;
}

-- members of two Rust versions, and a package of a smaller one that is no member
abbrev one : PackageModel
one = said (codes "a") (codes "/w/a/Cargo.toml") (1, 71, 0) true

abbrev two : PackageModel
two = said (codes "b") (codes "/w/b/Cargo.toml") (1, 70, 2) true

abbrev other : PackageModel
other = said (codes "c") (codes "/c/Cargo.toml") (1, 1, 0) false

abbrev workspace : WorkspaceModel
workspace = record { root = codes "/w"; packages = one ∷ other ∷ two ∷ [] }

-- the root's manifest has the smallest Rust version of the members
root_of_two : root_manifest workspace ≡ record {
  name = codes "virtual workspace";
  path = codes "/w/Cargo.toml";
  rust_version = Some (1, 70, 2);
}
root_of_two = refl

-- the members in their order
members_of_two : member_manifests workspace.packages ≡
    record { name = codes "a"; path = codes "/w/a/Cargo.toml"; rust_version = Some (1, 71, 0) }
    ∷ record { name = codes "b"; path = codes "/w/b/Cargo.toml"; rust_version = Some (1, 70, 2) } ∷ []
members_of_two = refl

-- a member without a Rust version is ignored
least_of_some : least (None ∷ Some (1, 71, 0) ∷ None ∷ Some (1, 70, 9) ∷ Some (2, 0, 0) ∷ [])
    ≡ Some (1, 70, 9)
least_of_some = refl

least_of_none : least (None ∷ None ∷ []) ≡ None
least_of_none = refl

-- the given Rust version counts, even if those of the manifests are ignored
given_first : rust_version_for (record { given = Some (1, 2, 3); ignored = false }) (Some (1, 71, 0))
    ≡ Some (1, 2, 3)
given_first = refl

ignored_given : rust_version_for (record { given = Some (1, 2, 3); ignored = true }) (Some (1, 71, 0))
    ≡ Some (1, 2, 3)
ignored_given = refl

ignored : rust_version_for (record { given = None; ignored = true }) (Some (1, 71, 0)) ≡ None
ignored = refl

own : rust_version_for (record { given = None; ignored = false }) (Some (1, 71, 0)) ≡ Some (1, 71, 0)
own = refl
