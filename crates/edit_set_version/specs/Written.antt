-- What the outputs of a plan depend on (own).
use Rattle.std.specs.Prelude.{◌≡◌, ◌≢◌, ℕ, List, Option, Some, None, option_map}
use Rattle.std.specs.Borrow.{Bor}
use Rattle.edit_manifest.specs.Tables.{Tree}
use Rattle.edit_manifest.specs.Versions.{workspace_version}
use Rattle.edit_metadata.specs.declared.input.Input.{Input}
use Rattle.semver.specs.Identifiers.{parts_of}
use Rattle.semver.specs.Parse.{Parts}
use Rattle.semver.specs.declared.Version.{Version}
use Rattle.edit_set_version.specs.Projects.{IsTreeAt}

-- an optional version, by its parts
abbrev pub shared_version_view : Option (Bor Version) → Option Parts
shared_version_view shared = option_map (λ v. parts_of v.now) shared

-- where the workspace has a next version, the manifest at the root's path has its current version
abbrev pub HasSharedVersion : List Input → List ℕ → Option Parts → Type 0
HasSharedVersion inputs root None = Unit {0}
HasSharedVersion inputs root (Some next) =
    (tree : Tree) × IsTreeAt inputs root tree × (workspace_version tree ≢ None)

-- where the workspace has a next version and the manifest is at the root's path, it has the current version
abbrev pub CanShare : List ℕ → Option Parts → List ℕ → Tree → Type 0
CanShare root None path tree = Unit {0}
CanShare root (Some next) path tree = path ≡ root → workspace_version tree ≢ None
