-- Worked examples of the calls that follow an upgrade.
use Rattle.std.proofs.Common.{◌≡◌, ℕ, List, true, false, [], ◌∷◌, Option, Some, None, refl}
use Rattle.std.specs.Prelude.{codes}
use Rattle.std.specs.Fmt.{digits}
use Rattle.semver.specs.Parse.{Parts}
use Rattle.semver.proofs.OnLiterals.{semver_on_literals}
use Rattle.edit_metadata.specs.Metadata.{PackageModel, WorkspaceModel}
use Rattle.edit_upgrade.specs.ParsedOptions.{ParsedOptions}
use Rattle.edit_upgrade.specs.Pins.{pin_of, pins_of}
use Rattle.edit_upgrade.specs.UpdateCalls.{Call, update_calls}

-- what is said of a package
abbrev package_of : List ℕ → Parts → Option (List ℕ) → PackageModel
package_of name version source = record {
  name = name;
  id = name;
  manifest_path = codes "/c/Cargo.toml";
  version = version;
  source = source;
  rust_version = None;
  member = false;
}

-- a workspace of these packages
abbrev workspace_of : List PackageModel → WorkspaceModel
workspace_of packages = record { root = codes "/w"; packages = packages }

-- a plan that modified this name, by the options that are usual
abbrev usual : List ℕ → ParsedOptions
usual name = record {
  modified = name ∷ [];
  git_crates = [];
  args = [];
  compatible = true;
  recursive = None;
  dry_run = false;
  locked = false;
}

-- the arguments before those that select what is updated, and after them
abbrev call_of : List (List ℕ) → Call
call_of args = codes "cargo" ∷ codes "update" ∷ codes "--manifest-path" ∷ codes "/w/Cargo.toml" ∷ args

abbrev serde : PackageModel
serde = package_of (codes "serde") (1, 2, 3, [], []) None

-- a name that was modified
modified_name : update_calls (usual (codes "serde")) (workspace_of (serde ∷ []))
    ≡ call_of (codes "--aggressive" ∷ codes "--package" ∷ codes "serde@1.2.3" ∷ codes "--offline" ∷ []) ∷ []
unfolding semver_on_literals digits
modified_name = refl

-- none where nothing was modified, at a dry run, and where the lock file may not change
nothing_modified :
    update_calls (record (usual (codes "serde")) { modified = [] }) (workspace_of (serde ∷ [])) ≡ []
nothing_modified = refl

dry_run : update_calls (record (usual (codes "serde")) { dry_run = true }) (workspace_of (serde ∷ [])) ≡ []
dry_run = refl

locked : update_calls (record (usual (codes "serde")) { locked = true }) (workspace_of (serde ∷ [])) ≡ []
locked = refl

-- a package argument with a version, and versions that are not raised to compatible ones
abbrev exact : ParsedOptions
exact = record (usual (codes "docopt")) { args = codes "docopt@99999.0.0" ∷ []; compatible = false }

abbrev docopt : PackageModel
docopt = package_of (codes "docopt") (99999, 0, 0, [], []) None

exact_arg : update_calls exact (workspace_of (docopt ∷ [])) ≡
    call_of (codes "--precise" ∷ codes "99999.0.0" ∷ codes "--package" ∷ codes "docopt@99999.0.0"
    ∷ codes "--offline" ∷ []) ∷ []
unfolding semver_on_literals digits
exact_arg = refl

-- the name has a precise version, so nothing is left for a recursive call
recursive_arg : update_calls (record exact { recursive = Some true }) (workspace_of (docopt ∷ []))
    ≡ update_calls exact (workspace_of (docopt ∷ []))
unfolding semver_on_literals digits
recursive_arg = refl

-- packages of repositories, in their order; one of that name from elsewhere is not among them
abbrev from_repository : List ℕ → Parts → PackageModel
from_repository name version = package_of name version (Some (codes "git+https://e/x#1"))

repositories : update_calls
    (record (usual (codes "b")) { git_crates = codes "g" ∷ []; recursive = Some false })
    (workspace_of (from_repository (codes "g") (2, 0, 0, [], [])
    ∷ from_repository (codes "h") (1, 0, 0, [], [])
    ∷ package_of (codes "g") (3, 0, 0, [], []) (Some (codes "registry+x"))
    ∷ from_repository (codes "g") (1, 0, 0, codes "rc.1", codes "b") ∷ []))
    ≡ call_of (codes "--package" ∷ codes "g@2.0.0" ∷ codes "--package" ∷ codes "g@1.0.0-rc.1+b"
    ∷ codes "--offline" ∷ []) ∷ []
unfolding semver_on_literals digits
repositories = refl

-- the last package argument of a name applies, and names stand in byte order
last_arg : pins_of (codes "b@1.0.0" ∷ codes "a" ∷ codes "b" ∷ [])
    ≡ (codes "a", None) ∷ (codes "b", None) ∷ []
unfolding semver_on_literals digits
last_arg = refl

-- a requirement without three numbers, or only behind `>` or `<`, has no precise version
two_numbers : pin_of (codes "1.2") ≡ None
unfolding semver_on_literals digits
two_numbers = refl

strictly_below : pin_of (codes "<2.0.0, >1.0.0") ≡ None
unfolding semver_on_literals digits
strictly_below = refl
