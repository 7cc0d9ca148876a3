-- A run of `set-version`, from its steps.
use Rattle.std.proofs.Common.{◌≡◌, ℕ, List, true, inl, inr}
use Rattle.std.specs.Prelude.{◌⊎◌}
use Rattle.edit_base.specs.Errors.{IsMemory}
use Rattle.edit_base.specs.declared.errors.DeviceCall.TheVariants as call
use Rattle.edit_base.specs.declared.errors.Error.{Error}
use Rattle.edit_base.specs.declared.errors.Error.TheVariants.{Output as Unwritten}
use Rattle.edit_metadata.specs.Metadata.{WorkspaceModel}
use Rattle.edit_metadata.specs.declared.input.Input.{Input}
use Rattle.edit_set_version.specs.Bumps.{target_of}
use Rattle.edit_set_version.specs.PlanRefused.{IsCauseOf}
use Rattle.edit_set_version.specs.Selections.{selection_view}
use Rattle.edit_steps.specs.Errors.{IsWorkspaceError}
use Rattle.edit_steps.specs.Workspaces.{HasNoWorkspace}
use Rattle.edit_store.specs.Store.{IsCallError, SameFiles, StoreView}
use Rattle.edit_program.specs.SetVersionCauses.{IsSetVersionCause}
use Rattle.edit_program.specs.SetVersions.{IsRead}
use Rattle.edit_program.specs.declared.set_version_run.set_version_args.SetVersionArgs.{SetVersionArgs}

-- what is printed was not taken, or memory ran out for it, before a file was written
pub stream_cause : (args : SetVersionArgs) (current : List ℕ) (old new : StoreView) (e : Error)
    → SameFiles old.file_at new.file_at → IsMemory e ⊎ (e ≡ Unwritten)
    → IsSetVersionCause args current old new e
stream_cause args current old new e same (inl memory) = inl (inl memory)
stream_cause args current old new e same (inr unwritten) = inr (same, inr (inl unwritten))

-- a workspace that is not read
pub workspace_cause : (args : SetVersionArgs) (current : List ℕ) (old new : StoreView) (e : Error)
    → SameFiles old.file_at new.file_at
    → IsCallError call.Read old new e
    ⊎ (old.tells ≡ true → HasNoWorkspace old.file_at current args.metadata_json.now e)
    → IsCallError call.Read old new e ⊎ IsWorkspaceError e
    → IsSetVersionCause args current old new e
workspace_cause args current old new e same (inl refused) only = inr (same, inl refused)
workspace_cause args current old new e same (inr wrong) (inl refused) = inr (same, inl refused)
workspace_cause args current old new e same (inr wrong) (inr unread) =
    inr (same, inr (inr (inl unread, λ t. inl (wrong t))))

-- a plan that is not made
pub plan_cause : (args : SetVersionArgs) (current : List ℕ) (old new : StoreView) (w : WorkspaceModel)
    (is : List Input) (e : Error) → SameFiles old.file_at new.file_at
    → (old.tells ≡ true → IsRead args current old.file_at w is)
    → IsCauseOf (target_of args.target) (selection_view args.selection) w is e
    → IsSetVersionCause args current old new e
plan_cause args current old new w is e same read cause = inr (
  same,
  inr (inr (
    inr (record { workspace = w; inputs = is; cause = cause }),
    λ t. inr (record {
      workspace = w;
      inputs = is;
      read = read t;
      cause = cause;
    }),
  )),
)
