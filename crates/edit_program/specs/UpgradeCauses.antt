-- The causes of errors of `upgrade` and `looks`, and the effect on the files.
use Rattle.std.specs.Prelude.{◌≡◌, ◌⊎◌, ℕ, List, Option, true}
use Rattle.edit_base.specs.Errors.{IsMemory}
use Rattle.edit_base.specs.declared.errors.DeviceCall.TheVariants as call
use Rattle.edit_base.specs.declared.errors.Error.{Error}
use Rattle.edit_base.specs.declared.errors.Error.TheVariants.{Output as Unwritten}
use Rattle.edit_program.specs.AnyStoreErrors.{IsLookupsError}
use Rattle.edit_program.specs.NoIndex.{no_view}
use Rattle.edit_program.specs.Followed.{HasBadPolicy, HasNoUpgradeIndex, IsReady}
use Rattle.edit_program.specs.LockRead.{HasNoLock}
use Rattle.edit_sources.specs.Configured.{given}
use Rattle.edit_sources.specs.Index.{IndexView}
use Rattle.edit_store.specs.Store.{Files, IsCallError, SameFiles, StoreView}
use Rattle.edit_upgrade.specs.declared.decision.options.Options.{Options}
use Rattle.edit_upgrade.specs.declared.upgrade.UpgradePlan.{UpgradePlan}
use Rattle.edit_steps.specs.RequestView.{RequestView}
use Rattle.edit_steps.specs.Causes.{HasBadSources, IsFailure}
use Rattle.edit_steps.specs.Shared.{lists_for}
use Rattle.edit_steps.specs.Sources.{AreRead}
use Rattle.edit_steps.specs.declared.upgrade_read.sources.Sources.{Sources}
use Rattle.edit_program.specs.Planned.{IsPlanCause, to_request, upgrade_index}
use Rattle.edit_program.specs.Run.{Run}
use Rattle.edit_program.specs.Revising.{IsRevisionError}
use Rattle.edit_program.specs.Upgrading.{IsPlannedFor, IsPlannedTo}
use Rattle.edit_program.specs.declared.upgrade_run.following.Readings.{Readings}
use Rattle.edit_program.specs.declared.upgrade_run.upgrade_args.UpgradeArgs.{UpgradeArgs}
use Rattle.edit_program.specs.DeliveryCauses.{IsStopped}
use Rattle.edit_program.specs.UpgradeErrors.{IsUpgradeError}

-- the given files were read, and planning over their index fails
pub record HasNoPlan (options : Options) (view : Sources → IndexView) (request : RequestView)
    (current : List ℕ)
    (home : Option (List ℕ)) (files : Files) (e : Error) : Type 0 where
  pub sources : Sources
  pub read : AreRead files current home request sources
  pub cause : IsPlanCause options sources.target.inputs.items (lists_for sources.configs) (view sources) e

-- the given files were read, and planning by the policy over their index fails
pub record HasNoUpgradePlan (args : UpgradeArgs) (current : List ℕ) (home : Option (List ℕ))
    (local : StoreView) (files : Files) (e : Error) : Type 0 where
  pub readings : Readings
  pub ready : IsReady args current home files readings
  pub cause : IsPlanCause readings.args.options readings.sources.target.inputs.items
      (lists_for readings.sources.configs) (upgrade_index readings local) e

-- the cause of an error before there is a plan: the lock file or another file cannot be read, the policy
-- cannot be followed, the index cannot be read, or planning fails
abbrev pub IsUnplanned : UpgradeArgs → List ℕ → Option (List ℕ) → StoreView → Files → Error → Type 0
IsUnplanned args current home local files e =
    HasNoLock args.to_lockfile files current (given args.lock_file) e
    ⊎ (HasBadSources files current home (to_request args) e
    ⊎ ((HasBadPolicy args current home files e ⊎ HasNoUpgradeIndex args current home files e)
    ⊎ HasNoUpgradePlan args current home local files e))

-- the given files were read and planned, and a row is chosen that the plan has not
pub record HasNoChosenPlan (args : UpgradeArgs) (current : List ℕ) (home : Option (List ℕ))
    (local : StoreView) (files : Files) (e : Error) : Type 0 where
  pub readings : Readings
  pub single : UpgradePlan
  pub ready : IsReady args current home files readings
  pub planned : IsPlannedFor readings local single
  pub missing : IsRevisionError readings.args readings.sources.target.inputs.items
      (lists_for readings.sources.configs) single e

-- the cause of an error before a file is written: there is no plan, or a row is chosen that it has not
abbrev pub IsUnprepared : UpgradeArgs → List ℕ → Option (List ℕ) → StoreView → Files → Error → Type 0
IsUnprepared args current home local files e =
    IsUnplanned args current home local files e ⊎ HasNoChosenPlan args current home local files e

-- the cause in the given files: there is no plan to carry out, and each file is unchanged; or the plan is not
-- carried out
abbrev pub IsUnfit : (List ℕ → Type 0) → UpgradeArgs → Run → Error → Type 0
IsUnfit Prints args run e =
    (SameFiles run.old.file_at run.new.file_at
    × IsUnprepared args run.current run.home run.index_files run.old.file_at e)
    ⊎ IsPlannedTo (λ d. IsStopped Prints d run.old run.new e) args run.current run.home run.index_files
    run.old.file_at

-- the cause of an error of `upgrade`: out of memory; a device error in a read, and each file is unchanged;
-- one in a write; a failed print; or another error that `upgrade` may return, with its cause in the given
-- files where the store tells what these hold
abbrev pub IsUpgradeCause : (List ℕ → Type 0) → UpgradeArgs → Run → Error → Type 0
IsUpgradeCause Prints args run e =
    IsMemory e
    ⊎ ((SameFiles run.old.file_at run.new.file_at × IsFailure run.old run.new e)
    ⊎ (IsCallError call.Write run.old run.new e
    ⊎ ((e ≡ Unwritten)
    ⊎ (IsUpgradeError Prints args run e × (run.old.tells ≡ true → IsUnfit Prints args run e)))))

-- the cause in the given files where only lookups are requested: reading them fails, or planning over an
-- empty index does, as for an invalid name
abbrev pub HasBadLookupInput : UpgradeArgs → List ℕ → Option (List ℕ) → Files → Error → Type 0
HasBadLookupInput args current home files e =
    HasBadSources files current home (to_request args) e
    ⊎ HasNoPlan args.options (λ s. no_view) (to_request args) current home files e

-- the cause of an error of `looks`: out of memory or a device error, a failed print, or, over any store, one
-- of the errors of `looks`; where the store says what its files hold, the given files have its cause
abbrev pub IsLookupsCause : UpgradeArgs → List ℕ → Option (List ℕ) → StoreView → StoreView → Error → Type 0
IsLookupsCause args current home old new e =
    IsFailure old new e
    ⊎ ((e ≡ Unwritten)
    ⊎ (IsLookupsError args current e
    × (old.tells ≡ true → HasBadLookupInput args current home old.file_at e)))
