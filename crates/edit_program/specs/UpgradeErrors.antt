-- The errors that `upgrade` may return over any store, besides out of memory, device errors and failed prints
-- (own).
use Rattle.std.specs.Prelude.{◌≡◌, ◌⊎◌, ℕ, List, Bool, true, false, Option, Some, None}
use Rattle.edit_base.specs.declared.errors.Error.{Error}
use Rattle.edit_base.specs.declared.errors.Error.TheVariants.{Metadata, NoPath, Policy}
use Rattle.edit_sources.specs.Configured.{given}
use Rattle.edit_steps.specs.Errors.{IsIndexError, IsSourceError}
use Rattle.edit_steps.specs.Shared.{lists_for}
use Rattle.edit_store.specs.Store.{StoreView}
use Rattle.edit_upgrade.specs.declared.upgrade.UpgradePlan.{UpgradePlan}
use Rattle.edit_program.specs.DeliveryCauses.{IsStopped}
use Rattle.edit_program.specs.Followed.{AreByPolicy}
use Rattle.edit_program.specs.Planned.{IsPlanCause, to_request, upgrade_index}
use Rattle.edit_program.specs.Revising.{IsRevisionError}
use Rattle.edit_program.specs.Run.{Run}
use Rattle.edit_program.specs.Upgrading.{IsPathOf, IsPlannedFor, IsRevisedFor, delivery_for}
use Rattle.edit_program.specs.declared.upgrade_run.following.Readings.{Readings}
use Rattle.edit_program.specs.declared.upgrade_run.upgrade_args.UpgradeArgs.{UpgradeArgs}

-- a lock file is given, and it does not exist where one is required, or it is malformed
abbrev pub IsLockFileError : Bool → Option (List ℕ) → Error → Type 0
IsLockFileError required None e = ⊥
IsLockFileError required (Some named) e = ((required ≡ true) × (e ≡ NoPath)) ⊎ (e ≡ Metadata)

-- there is an error of the lock file, of a manifest or of a configuration file
abbrev pub IsFileError : UpgradeArgs → List ℕ → Error → Type 0
IsFileError args current e =
    IsLockFileError args.to_lockfile (given args.lock_file) e
    ⊎ IsSourceError current (to_request args) e

-- the policy is not ignored, and it is invalid or sets an age without a time from which that counts back
abbrev pub IsPolicyError : Bool → Error → Type 0
IsPolicyError ignored e = (ignored ≡ false) × (e ≡ Policy)

-- there is an error of what an upgrade reads: one of these files, the policy or the index
abbrev pub IsReadingError : UpgradeArgs → List ℕ → Error → Type 0
IsReadingError args current e =
    IsFileError args current e ⊎ (IsPolicyError args.no_policy e ⊎ IsIndexError (given args.index_file) e)

-- planning fails, with the options that the arguments and some policy give
pub record IsPlanningError (args : UpgradeArgs) (local : StoreView) (e : Error) : Type 0 where
  pub readings : Readings
  pub by_policy : AreByPolicy args readings
  pub cause : IsPlanCause readings.args.options readings.sources.target.inputs.items
      (lists_for readings.sources.configs) (upgrade_index readings local) e

-- a row is chosen that the plan has not
pub record IsChoiceError (args : UpgradeArgs) (local : StoreView) (e : Error) : Type 0 where
  pub readings : Readings
  pub single : UpgradePlan
  pub by_policy : AreByPolicy args readings
  pub planned : IsPlannedFor readings local single
  pub missing : IsRevisionError readings.args readings.sources.target.inputs.items
      (lists_for readings.sources.configs) single e

-- the plan is not carried out
pub record IsDeliveryError (Prints : List ℕ → Type 0) (args : UpgradeArgs) (run : Run) (e : Error)
    : Type 0 where
  pub readings : Readings
  pub single : UpgradePlan
  pub plan : UpgradePlan
  pub apart : List (List ℕ)
  pub path : Option (List ℕ)
  pub by_policy : AreByPolicy args readings
  pub planned : IsPlannedFor readings run.index_files single
  pub revised : IsRevisedFor readings single plan apart
  pub at : IsPathOf run.current (given args.update_calls) path
  pub stopped : IsStopped Prints (delivery_for readings run.current plan apart path) run.old run.new e

-- there is an error of what is read, of planning, of the choice of rows, or of carrying the plan out
abbrev pub IsUpgradeError : (List ℕ → Type 0) → UpgradeArgs → Run → Error → Type 0
IsUpgradeError Prints args run e =
    IsReadingError args run.current e
    ⊎ (IsPlanningError args run.index_files e
    ⊎ (IsChoiceError args run.index_files e ⊎ IsDeliveryError Prints args run e))
