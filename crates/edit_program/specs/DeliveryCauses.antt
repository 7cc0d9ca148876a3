-- The causes of errors of printing and writing a plan, and the effect on the files.
use Rattle.std.specs.Prelude.{◌≡◌, ◌≢◌, ◌⊎◌, ℕ, List, [], Option, None, Some, true, map, string_bytes}
use Rattle.edit_base.specs.declared.errors.DeviceCall.TheVariants as call
use Rattle.edit_base.specs.declared.errors.Error.{Error}
use Rattle.edit_base.specs.declared.errors.Error.TheVariants.{DependenciesMissing, Locked, Output as Unwritten}
use Rattle.edit_base.specs.declared.errors.MissingKind.TheVariants as kind
use Rattle.edit_store.specs.Store.{IsCallError, SameFiles, StoreView}
use Rattle.edit_upgrade.specs.ParsedOptions.{call_options, is_due}
use Rattle.edit_upgrade.specs.OptionCauses.{FailsAtPackageArg}
use Rattle.edit_upgrade.specs.declared.decision.options.Options.{Options}
use Rattle.edit_upgrade.specs.declared.upgrade.UpgradePlan.{UpgradePlan}
use Rattle.edit_program.specs.Delivered.{AreBothWritten, IsWrittenAfterPrint}
use Rattle.edit_program.specs.Delivery.{Delivery}

-- the error has these names that no entry has
abbrev pub AreListedIn : List (List ℕ) → Error → Type 0
AreListedIn missing (DependenciesMissing list) =
    (list.kind ≡ kind.Dependency) × (map string_bytes list.names.items ≡ missing)
AreListedIn missing other = ⊥

-- the error for selected names that no entry has: none where there is no such name
abbrev pub IsNamesError : List (List ℕ) → Option Error → Type 0
IsNamesError missing None = missing ≡ []
IsNamesError missing (Some e) = (missing ≢ []) × AreListedIn missing e

-- calls are needed, and a `--package` argument cannot be parsed
abbrev pub HasBadPackageArg : UpgradePlan → Options → Error → Type 0
HasBadPackageArg plan options e = (is_due (call_options plan options) ≡ true)
    × FailsAtPackageArg (map string_bytes options.package.items) e

-- a plan must not be written: the manifests are locked and it has outputs, or a `--package` argument cannot
-- be parsed
abbrev pub IsWriteBlocked : Delivery → Error → Type 0
IsWriteBlocked d e =
    ((e ≡ Locked) × (d.options.locked ≡ true) × (d.plan.outputs.items ≢ []))
    ⊎ HasBadPackageArg d.plan d.options e

-- selected names are missing, and the error has them
abbrev pub LacksNames : Delivery → Error → Type 0
LacksNames d e =
    (map string_bytes d.plan.missing.items ≢ []) × AreListedIn (map string_bytes d.plan.missing.items) e

-- a plan is not carried out: it must not be written, and each file is unchanged; or names are missing,
-- which is an error after the plan is printed and everything is written
abbrev pub IsStopped : (List ℕ → Type 0) → Delivery → StoreView → StoreView → Error → Type 0
IsStopped Prints d old new e =
    (SameFiles old.file_at new.file_at × IsWriteBlocked d e)
    ⊎ (IsWrittenAfterPrint AreBothWritten Prints d old new × LacksNames d e)

-- the cause of an error: out of memory or a device error in a write, a failed print, or the plan is not
-- carried out
abbrev pub IsDeliveryCause : (List ℕ → Type 0) → Delivery → StoreView → StoreView → Error → Type 0
IsDeliveryCause Prints d old new e =
    IsCallError call.Write old new e ⊎ ((e ≡ Unwritten) ⊎ IsStopped Prints d old new e)
