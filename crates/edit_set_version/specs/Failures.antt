-- The failures of a plan of new versions: what caused the error of each (own).
use Rattle.std.specs.Prelude.{◌≡◌, ℕ, List, Some, option_map, string_bytes}
use Rattle.edit_document.specs.Items.{place_view}
use Rattle.edit_metadata.specs.Inputs.{path_of}
use Rattle.edit_metadata.specs.declared.input.Input.{Input}
use Rattle.edit_tree.specs.Assertions.{Place}
use Rattle.edit_set_version.specs.declared.failure.VersionFailure.{VersionFailure}
use Rattle.edit_set_version.specs.declared.failure.VersionOrigin.{VersionOrigin}
use Rattle.edit_set_version.specs.declared.failure.VersionOrigin.TheVariants as origin

-- what caused an error: the manifest at a path, the version of the workspace in the root manifest at a path,
-- the version of the member with a name and the manifest at a path, or the entry at a place of the manifest
-- at a path
pub data Cause : Type 0 where
  at_input : List ℕ → Cause
  at_root : List ℕ → Cause
  at_member : List ℕ → List ℕ → Cause
  at_entry : List ℕ → Place → Cause

-- the cause that an origin names
abbrev pub cause_of : VersionOrigin → Cause
cause_of (origin.Input input) = at_input (path_of input.now)
cause_of (origin.Root root) = at_root (path_of root.now)
cause_of (origin.Member found input) = at_member (string_bytes found.now.name) (path_of input.now)
cause_of (origin.Entry input place) = at_entry (path_of input.now) (place_view place.items)

-- the input that an origin names
abbrev pub manifest_of : VersionOrigin → Input
manifest_of (origin.Input input) = input.now
manifest_of (origin.Root root) = root.now
manifest_of (origin.Member found input) = input.now
manifest_of (origin.Entry input place) = input.now

-- a failure names this cause
abbrev pub IsFrom : VersionFailure → Cause → Type 0
IsFrom f cause = option_map cause_of f.origin ≡ Some cause
