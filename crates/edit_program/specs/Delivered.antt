-- The effect of printing and writing a plan.
use Rattle.std.specs.Prelude.{◌≡◌, ◌⊎◌, ◌||◌, if◌then◌else◌, ℕ, List, [], true, map, string_bytes}
use Rattle.edit_report.specs.Applied.{AreWritten, HasStopped}
use Rattle.edit_report.specs.declared.output.Output.{Output}
use Rattle.edit_store.specs.Store.{StoreView}
use Rattle.edit_upgrade.specs.declared.decision.options.Options.{Options}
use Rattle.edit_program.specs.CallsFile.{calls_files, due_path, file_of}
use Rattle.edit_program.specs.Delivery.{Delivery}
use Rattle.edit_program.specs.PrintedPlan.{upgrade_stdout_text}

-- the outputs to write: none with `--dry-run` or `--locked`
abbrev pub upgrade_outputs_to_write : Options → List Output → List Output
upgrade_outputs_to_write o outputs = if o.dry_run || o.locked then [] else outputs

-- the first outputs are written, and after them this holds of the last
pub record IsBehind (Leaves : List Output → StoreView → StoreView → Type 0) (first last : List Output)
    (old new : StoreView) : Type 0 where
  pub mid : StoreView
  pub tells : mid.tells ≡ old.tells
  pub before : AreWritten first old mid
  pub behind : Leaves last mid new

-- both lists of outputs are written, the first before the last
abbrev pub AreBothWritten : List Output → List Output → StoreView → StoreView → Type 0
AreBothWritten first last old new = IsBehind AreWritten first last old new

-- writing stopped: at one of the first outputs, after all of them, or at one of the last
abbrev pub HaveStopped : List Output → List Output → StoreView → StoreView → Type 0
HaveStopped first last old new =
    HasStopped first old new ⊎ (AreWritten first old new ⊎ IsBehind HasStopped first last old new)

-- after the plan is printed this holds of the files to write, which are the plan's outputs and then the
-- file of the calls; a locked plan has no outputs
pub record IsWrittenAfterPrint (Leaves : List Output → List Output → StoreView → StoreView → Type 0)
    (Prints : List ℕ → Type 0) (d : Delivery) (old new : StoreView) : Type 0 where
  pub shows : Prints (upgrade_stdout_text d)
  pub unlocked : d.options.locked ≡ true → d.plan.outputs.items ≡ []
  pub calls : List Output
  pub are : map file_of calls ≡ calls_files (due_path d.options d.calls_path) d.calls
  pub leaves : Leaves (upgrade_outputs_to_write d.options d.plan.outputs.items) calls old new

-- the plan is printed, its outputs and the file of the calls are written, and no name is missing
pub record IsDelivered (Prints : List ℕ → Type 0) (d : Delivery) (old new : StoreView) : Type 0 where
  pub printed : IsWrittenAfterPrint AreBothWritten Prints d old new
  pub complete : map string_bytes d.plan.missing.items ≡ []

-- an error after the plan is printed: writing stopped, or everything is written
abbrev pub IsDeliveryInterrupted : (List ℕ → Type 0) → Delivery → StoreView → StoreView → Type 0
IsDeliveryInterrupted Prints d old new =
    IsWrittenAfterPrint HaveStopped Prints d old new
    ⊎ IsWrittenAfterPrint AreBothWritten Prints d old new
