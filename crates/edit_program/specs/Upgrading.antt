-- The files that an upgrade reads and writes, and its plan.
use Rattle.std.specs.Prelude.{◌≡◌, ℕ, List, Bool, ◌&&◌, ◌||◌, if◌then◌else◌, is_some, not, ◌==◌, Option, Some, None, length, option_map, ⊤}
use Rattle.edit_lock.specs.LockFile.{Package}
use Rattle.edit_lock.specs.Views.{lock_view}
use Rattle.std.specs.Option.{option_map_or}
use Rattle.edit_metadata.specs.Metadata.{WorkspaceModel}
use Rattle.edit_metadata.specs.Workspaces.{workspace_view}
use Rattle.edit_sources.specs.Configured.{given}
use Rattle.edit_steps.specs.Absolute.{IsAbsoluteOf}
use Rattle.edit_store.specs.Store.{Files, StoreView}
use Rattle.edit_upgrade.specs.declared.upgrade.UpgradePlan.{UpgradePlan}
use Rattle.edit_steps.specs.Shared.{lists_for}
use Rattle.edit_steps.specs.declared.upgrade_read.target.Target.{Target}
use Rattle.edit_policy.specs.declared.policy.CratePolicy.{CratePolicy}
use Rattle.edit_program.specs.Planned.{IsPlanned, upgrade_index}
use Rattle.edit_program.specs.declared.upgrade_run.following.Readings.{Readings}
use Rattle.edit_program.specs.declared.upgrade_run.upgrade_args.UpgradeArgs.{UpgradeArgs}
use Rattle.edit_program.specs.Delivered.{IsDeliveryInterrupted, IsDelivered}
use Rattle.edit_program.specs.Delivery.{Delivery, calls_against, calls_of}
use Rattle.edit_program.specs.Followed.{IsReady}
use Rattle.edit_program.specs.Run.{Run}
use Rattle.edit_program.specs.Revising.{IsRevised}
use Rattle.edit_program.specs.StderrText.{upgrade_stderr_text}

-- the plan for the files that were read, over their index, which `--to-lockfile` restricts to the packages of
-- the lock file, and the policy to versions that its holds admit
abbrev pub IsPlannedFor : Readings → StoreView → UpgradePlan → Type 0
IsPlannedFor r local plan =
    IsPlanned r.args.options r.sources.target.inputs.items (lists_for r.sources.configs)
    (upgrade_index r local) plan

-- the absolute path of a given file; none where none is given
abbrev pub IsPathOf : List ℕ → Option (List ℕ) → Option (List ℕ) → Type 0
IsPathOf current None None = ⊤
IsPathOf current (Some named) (Some path) = IsAbsoluteOf current named path
IsPathOf current _ _ = ⊥

-- the folder that paths in diffs are relative to: the workspace's root, where there is one, else the
-- current folder
abbrev pub diff_root : List ℕ → Option WorkspaceModel → List ℕ
diff_root current workspace = option_map_or (λ w. w.root) workspace current

-- the plan changes a manifest
abbrev pub has_outputs : UpgradePlan → Bool
has_outputs plan = not (length plan.outputs.items == 0)

-- the lock file is left as it is: with `--to-lockfile`, and where no row is chosen
abbrev pub keeps_lock : UpgradeArgs → UpgradePlan → Bool
keeps_lock args plan = args.to_lockfile || (is_some args.rows && not (has_outputs plan))

-- the workspace for which calls of `cargo update` follow: none where the lock file is left as it is
abbrev pub called_workspace : Bool → Option WorkspaceModel → Option WorkspaceModel
called_workspace keeps_lock workspace = if keeps_lock then None else workspace

-- a plan for these manifests, as the arguments request it to be printed, with the crates that it leaves in
-- more than one compatible range, what the policy says of crates, and this path for the file of the calls,
-- which are adapted to the lock file with these packages, where there is one
abbrev pub delivery_by : UpgradeArgs → List ℕ → UpgradePlan → List (List ℕ) → Target → List CratePolicy
    → Option (List ℕ) → Option (List Package) → Delivery
delivery_by args current plan apart target crates path lock = record {
  plan = plan;
  apart = apart;
  inputs = target.inputs.items;
  options = args.options;
  current = diff_root current (option_map workspace_view target.workspace);
  presentation = args.presentation;
  calls = calls_against lock args.offline
      (calls_of plan args.options
      (called_workspace (keeps_lock args plan) (option_map workspace_view target.workspace)));
  calls_path = path;
  offline = args.offline;
  crates = crates;
}

-- the plan for the files that were read, as their arguments request it to be printed
abbrev pub delivery_for : Readings → List ℕ → UpgradePlan → List (List ℕ) → Option (List ℕ) → Delivery
delivery_for r current plan apart path =
    delivery_by r.args current plan apart r.sources.target r.policy.crates.items path
    (option_map lock_view r.lock)

-- the plan for the files that were read, unified and restricted to chosen rows where their arguments request
-- it
abbrev pub IsRevisedFor : Readings → UpgradePlan → UpgradePlan → List (List ℕ) → Type 0
IsRevisedFor r single plan apart =
    IsRevised r.args r.sources.target.inputs.items (lists_for r.sources.configs) single plan apart

-- the given files were read and planned by the policy, the plan is unified and restricted to chosen rows
-- where that is requested, and this holds of it with the request to print and write it
pub record IsPlannedTo (Ends : Delivery → Type 0) (args : UpgradeArgs) (current : List ℕ)
    (home : Option (List ℕ)) (local : StoreView) (files : Files) : Type 0 where
  pub readings : Readings
  pub single : UpgradePlan
  pub plan : UpgradePlan
  pub apart : List (List ℕ)
  pub path : Option (List ℕ)
  pub ready : IsReady args current home files readings
  pub planned : IsPlannedFor readings local single
  pub revised : IsRevisedFor readings single plan apart
  pub at : IsPathOf current (given args.update_calls) path
  pub ends : Ends (delivery_for readings current plan apart path)

-- a plan is printed and written, and the flag is set where it changes a manifest
pub record IsUpgradeResult (due : Bool)
    (Prints Reports : List ℕ → Type 0) (old new : StoreView) (d : Delivery)
    : Type 0 where
  pub is : due ≡ has_outputs d.plan
  pub delivered : IsDelivered Prints d old new
  pub says : Reports (upgrade_stderr_text d)

-- the given manifests are upgraded: each output of the plan is in its file, then the calls are in theirs,
-- and no other file changed; the plan and the report on it are printed; the flag is set where the plan
-- changes a manifest
abbrev pub IsUpgraded : Bool → (List ℕ → Type 0) → (List ℕ → Type 0) → UpgradeArgs → Run → Type 0
IsUpgraded due Prints Reports args run =
    IsPlannedTo (IsUpgradeResult due Prints Reports run.old run.new) args run.current run.home run.index_files
    run.old.file_at

-- an upgrade failed at a write, or after one
abbrev pub IsBroken : (List ℕ → Type 0) → UpgradeArgs → Run → Type 0
IsBroken Prints args run =
    IsPlannedTo (λ d. IsDeliveryInterrupted Prints d run.old run.new) args
    run.current run.home run.index_files
    run.old.file_at
