-- What an upgrade prints and writes of its plan.
use Rattle.std.specs.Prelude.{◌≡◌, ◌≢◌, ◌⊎◌, ◌||◌, ◌++◌, ℕ, List, [], Option, Some, length, map, not, option_map, string_bytes, true}
use Rattle.edit_base.specs.declared.errors.Error.{Error}
use Rattle.edit_base.specs.declared.errors.Error.TheVariants.{Locked}
use Rattle.edit_lock.specs.Views.{lock_view}
use Rattle.edit_report.specs.declared.output.Output.{Output}
use Rattle.edit_sources.specs.Configured.{given}
use Rattle.edit_steps.specs.declared.run_error.RunError.{RunError}
use Rattle.edit_store.specs.Store.{StoreView}
use Rattle.plan_holds.specs.HoldNotes.{hold_notes}
use Rattle.edit_program.specs.CallsFile.{calls_files, due_path, file_of}
use Rattle.edit_program.specs.Delivery.{Delivery}
use Rattle.edit_program.specs.DeliveryCauses.{IsNamesError}
use Rattle.edit_program.specs.Effects.{diffs_in, stderr_texts, stdout_texts}
use Rattle.edit_program.specs.PlannedUpgrades.{IsPlannedUpgrade, apart_in}
use Rattle.edit_program.specs.PrintedPlan.{diffs_if, messages_as}
use Rattle.edit_program.specs.StderrText.{call_statuses, input_reports, notes}
use Rattle.edit_program.specs.Tables.{tables}
use Rattle.edit_program.specs.Upgrading.{IsPathOf, delivery_by}
use Rattle.edit_program.specs.declared.effects.Effects.{Effects}
use Rattle.edit_program.specs.declared.effects.Message.{Message}
use Rattle.edit_program.specs.declared.upgrade_run.planning.PlannedUpgrade.{PlannedUpgrade}
use Rattle.edit_program.specs.declared.upgrade_run.upgrade_args.UpgradeArgs.{UpgradeArgs}

-- the manifests are locked and the plan changes some, which is an error: no calls follow
pub record IsLockError (d : Delivery) (statuses : List ℕ) (error : Option Error) : Type 0 where
  pub is : error ≡ Some Locked
  pub locked : d.options.locked ≡ true
  pub changes : d.plan.outputs.items ≢ []
  pub silent : statuses ≡ []

-- the plan is carried out: its calls and its notes follow, and missing names are an error
pub record IsUnlocked (d : Delivery) (statuses : List ℕ) (error : Option Error) (noted : List ℕ)
    : Type 0 where
  pub unlocked : d.options.locked ≡ true → d.plan.outputs.items ≡ []
  pub calls : statuses ≡ call_statuses d.calls
  pub notes : noted ≡ hold_notes d.plan.rows.items d.crates ++ notes d
  pub names : IsNamesError (map string_bytes d.plan.missing.items) error

-- what is printed of a plan, the file of its calls, and its error
pub record AreReportsOf (d : Delivery) (messages : List Message) (statuses : List ℕ)
    (calls_file : List Output) (error : Option Error) (noted : List ℕ) : Type 0 where
  pub stdout : stdout_texts messages
      ≡ tables d.presentation.format d.options.verbosity d.plan.rows.items (length d.inputs)
      ++ messages_as d.presentation.format d.plan d.inputs d.current d.options d.calls
  pub stderr : stderr_texts messages
      ≡ input_reports d.options.verbosity d.plan.warnings.items d.inputs (length d.inputs)
  pub files : map file_of calls_file ≡ calls_files (due_path d.options d.calls_path) d.calls
  pub ends : IsLockError d statuses error ⊎ IsUnlocked d statuses error noted

-- the error of a failure; none if nothing fails
abbrev pub error_in : Option RunError → Option Error
error_in failure = option_map (λ f. f.error) failure

-- what an upgrade prints and writes of its plan
pub record AreEffectsOf (d : Delivery) (e : Effects) : Type 0 where
  pub reports : AreReportsOf d e.messages.items (string_bytes e.calls) e.calls_file.items (error_in e.failure)
      e.notes.items
  pub diffs : diffs_in e.diffs e.outputs.items
      ≡ diffs_if d.presentation.diff d.current d.inputs d.plan.outputs.items
  pub outputs : e.outputs.items ≡ d.plan.outputs.items
  pub writes : e.writes ≡ not (d.options.dry_run || d.options.locked)

-- a planned upgrade, as its arguments request it to be printed and written; the calls go to the file at this
-- path
abbrev pub planned_delivery : PlannedUpgrade → List ℕ → Option (List ℕ) → Delivery
planned_delivery p current path =
    delivery_by p.args current p.revised.plan (apart_in p) p.target p.policy.crates.items path
    (option_map lock_view p.lock)

-- the given files were read and planned, and this is what the upgrade prints and writes
pub record AreUpgradeEffects (args : UpgradeArgs) (current : List ℕ) (home : Option (List ℕ))
    (local old : StoreView) (e : Effects) : Type 0 where
  pub planned : PlannedUpgrade
  pub path : Option (List ℕ)
  pub is : IsPlannedUpgrade args current home local old planned
  pub at : IsPathOf current (given args.update_calls) path
  pub effects : AreEffectsOf (planned_delivery planned current path) e
