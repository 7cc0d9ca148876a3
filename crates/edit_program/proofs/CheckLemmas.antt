-- With `--check` no file changes.
use Rattle.std.proofs.Common.{◌≡◌, ◌∙◌, ◌&&◌, ◌||◌, ℕ, Bool, List, [], ◌∷◌, true, false, ap, arith, codes, refl, sym}
use Rattle.std.specs.Prelude.{if◌then◌else◌}
use Rattle.std.proofs.lemmas.List.Elements.{All-nil}
use Rattle.clap.specs.Words.{Row}
use Rattle.edit_report.specs.Applied.{AreWritten, path_of}
use Rattle.edit_report.specs.declared.output.Output.{Output}
use Rattle.edit_program.specs.SetVersions.{AreVersionsSet, outputs_to_write}
use Rattle.edit_program.specs.declared.set_version_run.set_version_args.SetVersionArgs.{SetVersionArgs}
use Rattle.edit_store.specs.Store.{SameFiles, StoreView}
use Rattle.edit_program.specs.Upgrading.{IsUpgraded, delivery_for}
use Rattle.edit_program.specs.declared.upgrade_run.upgrade_args.UpgradeArgs.{UpgradeArgs}
use Rattle.edit_program.proofs.DryRuns.{dry_keeps}
use Rattle.edit_program.specs.ParsedOptions.{is_dry, is_given, lists_rows}
use Rattle.edit_program.specs.Presented.{status_after}
use Rattle.edit_program.specs.Run.{Run}

-- at status 1 nothing was to be written
dry_by : (dry input_report lists due : Bool) (s : ℕ) → s ≡ (if input_report && due then 1 else 0) → s ≡ 1
    → (dry || (input_report || lists)) ≡ true
dry_by true input_report lists due s is one = refl
dry_by false true lists due s is one = refl
dry_by false false lists due s is one = let bad : 1 ≡ 0 = sym one ∙ is in absurd (omega (arith, bad))

pub dry_after : (rows : List Row) (due : Bool) (s : ℕ) → s ≡ status_after rows due → s ≡ 1
    → is_dry rows ≡ true
dry_after rows due s is one =
    dry_by (is_given (codes "dry-run") rows) (is_given (codes "check") rows) (lists_rows rows) due s is one

-- and the check is requested
check_by : (input_report due : Bool) (s : ℕ) → s ≡ (if input_report && due then 1 else 0) → s ≡ 1
    → input_report ≡ true
check_by true due s is one = refl
check_by false due s is one = let bad : 1 ≡ 0 = sym one ∙ is in absurd (omega (arith, bad))

pub check_after : (rows : List Row) (due : Bool) (s : ℕ) → s ≡ status_after rows due → s ≡ 1
    → is_given (codes "check") rows ≡ true
check_after rows due s is one = check_by (is_given (codes "check") rows) due s is one

-- an upgrade at a dry run leaves each file as it was
pub dry_upgrade : (due : Bool) (HasFields HasDecodedValue : List ℕ → Type 0) (args : UpgradeArgs) (run : Run)
    → args.options.dry_run ≡ true → IsUpgraded due HasFields HasDecodedValue args run
    → SameFiles run.old.file_at run.new.file_at
dry_upgrade due HasFields HasDecodedValue args run dry h =
    dry_keeps HasFields (delivery_for h.readings run.current h.plan h.apart h.path) run.old run.new
    (h.ready.follows.merged.options.dry_run ∙ dry) h.ends.delivered.printed

nothing_written : (outputs : List Output) (old new : StoreView) → outputs ≡ [] → AreWritten outputs old new
    → SameFiles old.file_at new.file_at
nothing_written [] old new is are path = are.others path (All-nil (λ (o : Output). path ≡ path_of o → ⊥))
nothing_written (o ∷ outputs) old new is are path = cc

-- and so does a setting of versions
pub dry_versions : (HasFields IsErrorOf : List ℕ → Type 0) (args : SetVersionArgs) (current : List ℕ) (due : Bool)
    (old new : StoreView) → args.dry_run ≡ true → AreVersionsSet HasFields IsErrorOf args current due old new
    → SameFiles old.file_at new.file_at
dry_versions HasFields IsErrorOf args current due old new dry set =
    nothing_written (outputs_to_write args set.plan.outputs.items) old new
    (ap (λ (b : Bool). if b then [] else set.plan.outputs.items) dry) set.leaves.0
