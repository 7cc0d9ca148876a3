-- The errors of a set-version plan over the inputs of a workspace, and what a plan that succeeds rules out
-- (own, after cargo-edit).
use Rattle.std.specs.Prelude.{◌≡◌, ◌≢◌, ℕ, List, [], true, All, map}
use Rattle.std.specs.List.{filter}
use Rattle.edit_base.specs.Errors.{IsMemory}
use Rattle.edit_base.specs.declared.errors.Error.{Error}
use Rattle.edit_syntax.specs.Grammar.{Text}
use Rattle.edit_tree.specs.Assertions.{IsDocument}
use Rattle.edit_tree.specs.Tree.{is_value_at, view_at}
use Rattle.edit_manifest.specs.Loaded.{IsBadManifest}
use Rattle.edit_manifest.specs.Versions.{package_version}
use Rattle.edit_metadata.specs.Metadata.{WorkspaceModel, members}
use Rattle.edit_metadata.specs.declared.input.Input.{Input}
use Rattle.edit_set_version.specs.Bumps.{Target}
use Rattle.edit_set_version.specs.Chosen.{SelectionView, excluded_inheriting, missing}
use Rattle.edit_set_version.specs.Admitted.{AllRise}
use Rattle.edit_base.specs.FirstCauses.{HasFirstCause}
use Rattle.edit_set_version.specs.Failures.{IsFrom}
use Rattle.edit_set_version.specs.Failures.Cause.{at_input}
use Rattle.edit_set_version.specs.PlanCauses.{CanBump, IsManifestError, IsMissing, IsVersionError, currents}
use Rattle.edit_metadata.specs.Inputs.{path_of}
use Rattle.edit_set_version.specs.Projects.{IsProject}
use Rattle.edit_set_version.specs.SetVersioned.{Bump, Project, bumps, writes_own}
use Rattle.edit_set_version.specs.declared.failure.VersionFailure.{VersionFailure}

-- the selected names that no member of a workspace has
abbrev pub unknown : SelectionView → WorkspaceModel → List (List ℕ)
unknown a w = missing a (map (λ p. p.name) (members w.packages))

-- no excluded member inherits a version that is bumped, and each chosen version can be bumped
pub record HasVersions (t : Target) (a : SelectionView) (p : Project) : Type 0 where
  pub excluded : excluded_inheriting a p.members ≡ []
  pub versions : All (CanBump t a) (currents a p)

-- the bytes of an input are a manifest
abbrev pub IsManifest : Input → Type 0
IsManifest input = (form : Text) × IsDocument input.bytes.items form

-- the bytes of an input are no manifest, and the failure names it
abbrev pub FailsAtInput : VersionFailure → Input → Type 0
FailsAtInput f input = IsBadManifest input.bytes.items f.error × IsFrom f (at_input (path_of input))

-- Why a plan fails: memory ran out, or the first of these is the cause, each if none before it is: a name
-- that no member has, an input that is no manifest, an excluded member that shares a bumped version, a
-- version that the target rejects, a bumped version without a literal, and a requirement that cannot rise. Of
-- several inputs, versions or requirements it is the first in their order.
pub data IsFailureOf
    (t : Target) (a : SelectionView) (w : WorkspaceModel) (inputs : List Input) (f : VersionFailure)
    : Type 0 where
  memory : IsMemory f.error → IsFailureOf t a w inputs f
  no_package : IsMissing (unknown a w) f.error → IsFailureOf t a w inputs f
  no_manifest : unknown a w ≡ [] → HasFirstCause IsManifest (FailsAtInput f) inputs
      → IsFailureOf t a w inputs f
  project : unknown a w ≡ [] → (p : Project) → IsProject w inputs p → IsVersionError t a p f
      → IsFailureOf t a w inputs f
  manifest : unknown a w ≡ [] → (p : Project) → IsProject w inputs p → HasVersions t a p
      → IsManifestError (bumps t a p) inputs p f → IsFailureOf t a w inputs f

-- the plan fails with this error, for a cause that a failure names
abbrev pub IsCauseOf : Target → SelectionView → WorkspaceModel → List Input → Error → Type 0
IsCauseOf t a w inputs e = (f : VersionFailure) × (f.error ≡ e) × IsFailureOf t a w inputs f

-- no error in an input for these bumps: a version that is to be written has a literal, and each requirement
-- on a bumped crate can be raised
pub record IsInputClearBy (bs : List Bump) (input : Input) : Type 0 where
  pub form : Text
  pub manifest : IsDocument input.bytes.items form
  pub literal : filter (writes_own (path_of input)) bs ≢ [] → is_value_at form package_version ≡ true
  pub requirements : AllRise bs (path_of input) (view_at form)

-- no error in an input for the bumps of a project
abbrev pub IsInputClear : Target → SelectionView → Project → Input → Type 0
IsInputClear t a p input = IsInputClearBy (bumps t a p) input

-- no error in the plan
pub record IsClear (t : Target) (a : SelectionView) (inputs : List Input) (p : Project) : Type 0 where
  pub packages : missing a (map (λ m. m.name) p.members) ≡ []
  pub excluded : excluded_inheriting a p.members ≡ []
  pub versions : All (CanBump t a) (currents a p)
  pub each : All (IsInputClear t a p) inputs
