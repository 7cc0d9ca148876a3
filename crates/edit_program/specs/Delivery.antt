-- A plan for inputs, and how it is printed and written.
use Rattle.std.specs.Prelude.{ℕ, Bool, List, [], Option, Some, None, map, option_map, string_bytes}
use Rattle.std.specs.Option.{option_map_or}
use Rattle.edit_upgrade.specs.declared.decision.options.Options.{Options}
use Rattle.edit_lock.specs.LockFile.{Package}
use Rattle.edit_lock.specs.AdaptedCalls.{changes, adapt_calls}
use Rattle.edit_lock.specs.Views.{lock_view}
use Rattle.edit_metadata.specs.Metadata.{WorkspaceModel}
use Rattle.edit_metadata.specs.declared.input.Input.{Input}
use Rattle.edit_policy.specs.declared.policy.CratePolicy.{CratePolicy}
use Rattle.edit_shown.specs.declared.presentation.Presentation.{Presentation}
use Rattle.edit_upgrade.specs.ParsedOptions.{call_options}
use Rattle.edit_upgrade.specs.UpdateCalls.{Call, update_calls}
use Rattle.edit_upgrade.specs.declared.upgrade.UpgradePlan.{UpgradePlan}
use Rattle.edit_metadata.specs.Workspaces.{workspace_view}
use Rattle.edit_program.specs.declared.upgrade_output.delivery.DeliveryTask.{DeliveryTask}

-- the calls of `cargo update`, where there is a workspace
abbrev pub calls_of : UpgradePlan → Options → Option WorkspaceModel → List Call
calls_of plan options workspace = option_map_or (update_calls (call_options plan options)) workspace []

-- calls adapted to the lock file with these packages, where there is one; with `offline` calls that are
-- valid for it fetch nothing
abbrev pub calls_against : Option (List Package) → Bool → List Call → List Call
calls_against None offline calls = calls
calls_against (Some packages) offline calls = adapt_calls (changes packages packages) offline calls

-- a plan for inputs, the crates that it leaves in more than one compatible range, its options, the folder and
-- the format that it is printed in, the calls that follow, the path of the file for them, and what the policy
-- says of crates
pub record Delivery : Type 0 where
  pub plan : UpgradePlan
  pub apart : List (List ℕ)
  pub inputs : List Input
  pub options : Options
  pub current : List ℕ
  pub presentation : Presentation
  pub calls : List Call
  pub calls_path : Option (List ℕ)
  pub offline : Bool
  pub crates : List CratePolicy

-- the plan of a task, and how it is printed and written
abbrev pub delivery_of : DeliveryTask → Delivery
delivery_of task = record {
  plan = task.plan.now;
  apart = map string_bytes task.apart.now;
  inputs = task.inputs.now;
  options = task.options.now;
  current = task.root.now;
  presentation = task.presentation;
  calls = calls_against (option_map (λ lock. lock_view lock.now) task.lock) task.offline
      (calls_of task.plan.now task.options.now (option_map (λ w. workspace_view w.now) task.workspace));
  calls_path = option_map (λ path. path.now) task.update_calls;
  offline = task.offline;
  crates = task.crates.now;
}
