-- With a dry run no file changes.
use Rattle.std.proofs.Common.{◌≡◌, ◌∙◌, ◌∷◌, List, [], Option, None, ap, arith, map, refl, true, ℕ}
use Rattle.std.specs.Prelude.{◌||◌, if◌then◌else◌}
use Rattle.edit_upgrade.specs.declared.decision.options.Options.{Options}
use Rattle.edit_report.specs.Applied.{AreWritten}
use Rattle.edit_report.specs.declared.output.Output.{Output}
use Rattle.edit_store.specs.Store.{SameFiles, StoreView}
use Rattle.edit_program.specs.CallsFile.{calls_files, due_path, file_of}
use Rattle.edit_program.specs.Delivered.{AreBothWritten, IsWrittenAfterPrint, upgrade_outputs_to_write}
use Rattle.edit_program.specs.Delivery.{Delivery}

-- no output is to be written
none_written : (o : Options) (outputs : List Output) → o.dry_run ≡ true
    → upgrade_outputs_to_write o outputs ≡ []
none_written o outputs dry = ap (λ b. if b || o.locked then [] else outputs) dry

-- nor is a file of calls
none_due : (o : Options) (path : Option (List ℕ)) → o.dry_run ≡ true → due_path o path ≡ None
none_due o path dry = ap (λ b. if b || o.locked then None else path) dry

pub no_files : (outputs : List Output) → map file_of outputs ≡ [] → outputs ≡ []
no_files [] is = refl
no_files (o ∷ os) is = cc

-- nothing is written to no files
pub unchanged : (outputs : List Output) (old new : StoreView) → outputs ≡ [] → AreWritten outputs old new
    → SameFiles old.file_at new.file_at
unchanged [] old new is written path = written.others path (λ k d within. absurd (omega (arith, within)))
unchanged (o ∷ os) old new is written path = cc

-- what is delivered at a dry run
pub dry_keeps : (HasFields : List ℕ → Type 0) (d : Delivery) (old new : StoreView) → d.options.dry_run ≡ true
    → IsWrittenAfterPrint AreBothWritten HasFields d old new → SameFiles old.file_at new.file_at
dry_keeps HasFields d old new dry printed path =
    unchanged printed.calls printed.leaves.mid new
    (no_files printed.calls (printed.are ∙ ap (λ p. calls_files p d.calls) (none_due d.options d.calls_path dry)))
    printed.leaves.behind path
    ∙ unchanged (upgrade_outputs_to_write d.options d.plan.outputs.items) old printed.leaves.mid
    (none_written d.options d.plan.outputs.items dry) printed.leaves.before path
