-- What a run of `set-version` reads, plans, prints and writes (own, after cargo-edit).
use Rattle.std.specs.Prelude.{◌≡◌, ◌==◌, ℕ, List, [], Bool, None, true, length, not, if◌then◌else◌}
use Rattle.edit_metadata.specs.Inputs.{RustOptions}
use Rattle.edit_metadata.specs.Metadata.{WorkspaceModel}
use Rattle.edit_metadata.specs.declared.input.Input.{Input}
use Rattle.edit_report.specs.Applied.{AreWritten, HasStopped}
use Rattle.edit_report.specs.declared.output.Output.{Output}
use Rattle.edit_set_version.specs.Bumps.{target_of}
use Rattle.edit_set_version.specs.Planned.{plan_lines_view}
use Rattle.edit_set_version.specs.Selections.{selection_view}
use Rattle.edit_set_version.specs.declared.plan.SetVersionPlan.{SetVersionPlan}
use Rattle.edit_steps.specs.Workspaces.{IsWorkspaceRead}
use Rattle.edit_store.specs.Store.{Files, StoreView}
use Rattle.edit_program.specs.Plans.{IsVersionPlan}
use Rattle.edit_program.specs.Printed.{set_version_stderr_text, set_version_stdout_text}
use Rattle.edit_program.specs.declared.set_version_run.set_version_args.SetVersionArgs.{SetVersionArgs}

-- no Rust version is requested
abbrev pub no_rust : RustOptions
no_rust = record { given = None; ignored = true }

-- the given workspace was read, with its manifests
abbrev pub IsRead : SetVersionArgs → List ℕ → Files → WorkspaceModel → List Input → Type 0
IsRead args current files w is = IsWorkspaceRead files current args.metadata_json.now no_rust w is

-- the outputs to write: none with a dry run
abbrev pub outputs_to_write : SetVersionArgs → List Output → List Output
outputs_to_write args outputs = if args.dry_run then [] else outputs

-- whether a plan has an output
abbrev pub has_some : List Output → Bool
has_some outputs = not (length outputs == 0)

-- the workspace was read, the plan was made and printed, and this holds of its outputs
pub record IsPlannedTo (Leaves : List Output → StoreView → StoreView → Type 0)
    (Prints Reports : List ℕ → Type 0)
    (args : SetVersionArgs) (current : List ℕ) (old new : StoreView) : Type 0 where
  pub workspace : WorkspaceModel
  pub inputs : List Input
  pub plan : SetVersionPlan
  pub read : IsRead args current old.file_at workspace inputs
  pub planned : IsVersionPlan (target_of args.target) (selection_view args.selection) workspace inputs plan
  pub shows : Prints (set_version_stdout_text args workspace.root inputs plan)
  pub tells : Reports (set_version_stderr_text args (plan_lines_view plan))
  pub leaves : Leaves plan.outputs.items old new

-- the outputs are written, none with a dry run; the flag is set where there are outputs
abbrev pub AreDelivered : SetVersionArgs → Bool → List Output → StoreView → StoreView → Type 0
AreDelivered args due outputs old new = AreWritten (outputs_to_write args outputs) old new
    × (due ≡ has_some outputs)

-- the writing stopped at an output
abbrev pub HasStoppedAt : SetVersionArgs → List Output → StoreView → StoreView → Type 0
HasStoppedAt args outputs old new = HasStopped (outputs_to_write args outputs) old new

-- each output of the plan is in its file, and no other file changed; `due` is set where the plan has an
-- output
abbrev pub AreVersionsSet : (List ℕ → Type 0) → (List ℕ → Type 0) → SetVersionArgs → List ℕ → Bool
    → StoreView → StoreView → Type 0
AreVersionsSet Prints Reports args current due old new =
    IsPlannedTo (AreDelivered args due) Prints Reports args current old new

-- writing stopped at an output: the files of those before it are whole, and those after it unchanged
abbrev pub IsSettingInterrupted : (List ℕ → Type 0) → (List ℕ → Type 0) → SetVersionArgs → List ℕ
    → StoreView → StoreView → Type 0
IsSettingInterrupted Prints Reports args current old new =
    IsPlannedTo (HasStoppedAt args) Prints Reports args current old new
