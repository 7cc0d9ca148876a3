-- The causes of errors of `set-version`, and the effect on the files.
use Rattle.std.specs.Prelude.{◌≡◌, ◌⊎◌, ℕ, List, true}
use Rattle.edit_base.specs.declared.errors.DeviceCall.TheVariants as call
use Rattle.edit_base.specs.declared.errors.Error.{Error}
use Rattle.edit_base.specs.declared.errors.Error.TheVariants.{Output as Unwritten}
use Rattle.edit_metadata.specs.Metadata.{WorkspaceModel}
use Rattle.edit_metadata.specs.declared.input.Input.{Input}
use Rattle.edit_set_version.specs.Bumps.{target_of}
use Rattle.edit_set_version.specs.PlanRefused.{IsCauseOf}
use Rattle.edit_set_version.specs.Selections.{selection_view}
use Rattle.edit_steps.specs.Workspaces.{HasNoWorkspace}
use Rattle.edit_store.specs.Store.{Files, IsCallError, SameFiles, StoreView}
use Rattle.edit_program.specs.AnyStoreErrors.{IsVersionError}
use Rattle.edit_program.specs.SetVersions.{IsRead}
use Rattle.edit_program.specs.declared.set_version_run.set_version_args.SetVersionArgs.{SetVersionArgs}

-- the workspace was read, and planning fails
pub record HasNoPlan (args : SetVersionArgs) (current : List ℕ) (files : Files) (e : Error) : Type 0 where
  pub workspace : WorkspaceModel
  pub inputs : List Input
  pub read : IsRead args current files workspace inputs
  pub cause : IsCauseOf (target_of args.target) (selection_view args.selection) workspace inputs e

-- the cause in the files: reading the workspace fails, or planning does
abbrev pub FailsAtSources : SetVersionArgs → List ℕ → Files → Error → Type 0
FailsAtSources args current files e =
    HasNoWorkspace files current args.metadata_json.now e ⊎ HasNoPlan args current files e

-- the cause of an error before any write: out of memory, a device error in a read, which is counted, a
-- failed print, or, over any store, one of the errors of `set-version`; where the store says what its files
-- hold, the files have its cause
abbrev pub IsUnset : SetVersionArgs → List ℕ → StoreView → StoreView → Error → Type 0
IsUnset args current old new e =
    IsCallError call.Read old new e
    ⊎ ((e ≡ Unwritten)
    ⊎ (IsVersionError args e × (old.tells ≡ true → FailsAtSources args current old.file_at e)))

-- the cause of an error of `set-version`: out of memory or a device error in a write, or nothing is written
-- and each file is unchanged
abbrev pub IsSetVersionCause : SetVersionArgs → List ℕ → StoreView → StoreView → Error → Type 0
IsSetVersionCause args current old new e =
    IsCallError call.Write old new e ⊎ (SameFiles old.file_at new.file_at × IsUnset args current old new e)
