-- What `set-version` prints and writes of its plan.
use Rattle.std.specs.Prelude.{◌≡◌, ◌≢◌, ◌⊎◌, ℕ, List, [], None, Some, codes, not, string_bytes, true}
use Rattle.edit_base.specs.Errors.{number_of}
use Rattle.edit_metadata.specs.Metadata.{WorkspaceModel}
use Rattle.edit_metadata.specs.declared.input.Input.{Input}
use Rattle.edit_set_version.specs.Bumps.{target_of}
use Rattle.edit_set_version.specs.PlanRefused.{IsCauseOf}
use Rattle.edit_set_version.specs.Planned.{plan_lines_view}
use Rattle.edit_set_version.specs.Selections.{selection_view}
use Rattle.edit_set_version.specs.declared.plan.SetVersionPlan.{SetVersionPlan}
use Rattle.edit_steps.specs.declared.run_error.RunError.{RunError}
use Rattle.edit_store.specs.Store.{StoreView}
use Rattle.edit_program.specs.Effects.{stderr_of, stdout_of}
use Rattle.edit_program.specs.Plans.{IsVersionPlan}
use Rattle.edit_program.specs.Printed.{set_version_stderr_text, set_version_stdout_text, warning_if}
use Rattle.edit_program.specs.SetVersions.{IsRead}
use Rattle.edit_program.specs.declared.effects.Effects.{Effects}
use Rattle.edit_program.specs.declared.set_version_run.set_version_args.SetVersionArgs.{SetVersionArgs}

-- what is printed and written of a plan for a workspace in this folder; the notes are the warning of a dry
-- run
pub record AreTextsOf (args : SetVersionArgs) (root : List ℕ) (inputs : List Input) (plan : SetVersionPlan)
    (e : Effects) : Type 0 where
  pub stdout : stdout_of e ≡ set_version_stdout_text args root inputs plan
  pub stderr : stderr_of e ≡ set_version_stderr_text args (plan_lines_view plan)
  pub notes : e.notes.items ≡ warning_if args.dry_run (codes "aborting set-version due to dry run")
  pub outputs : e.outputs.items ≡ plan.outputs.items
  pub writes : e.writes ≡ not args.dry_run
  pub ends : e.failure ≡ None

-- the workspace was read and the plan was made, and this is printed and written of it
pub record AreVersionEffects (args : SetVersionArgs) (current : List ℕ) (old : StoreView) (e : Effects)
    : Type 0 where
  pub workspace : WorkspaceModel
  pub inputs : List Input
  pub plan : SetVersionPlan
  pub read : old.tells ≡ true → IsRead args current old.file_at workspace inputs
  pub planned : IsVersionPlan (target_of args.target) (selection_view args.selection) workspace inputs plan
  pub texts : AreTextsOf args workspace.root inputs plan e

-- the workspace was read, planning fails, and nothing is written
pub record IsUnplannedSetting (args : SetVersionArgs) (current : List ℕ) (old : StoreView) (e : Effects)
    : Type 0 where
  pub workspace : WorkspaceModel
  pub inputs : List Input
  pub failure : RunError
  pub read : old.tells ≡ true → IsRead args current old.file_at workspace inputs
  pub fails : e.failure ≡ Some failure
  pub cause : IsCauseOf (target_of args.target) (selection_view args.selection) workspace inputs failure.error
  pub uncounted : number_of failure.error ≢ 3
  pub outputs : e.outputs.items ≡ []

-- what `set-version` prints and writes; no calls follow
pub record IsSetting (args : SetVersionArgs) (current : List ℕ) (old : StoreView) (e : Effects)
    : Type 0 where
  pub calls : string_bytes e.calls ≡ []
  pub files : e.calls_file.items ≡ []
  pub ends : AreVersionEffects args current old e ⊎ IsUnplannedSetting args current old e
