-- The effect of each subcommand on files and streams, by its parsed arguments.
use Rattle.std.specs.Prelude.{◌≡◌, ◌≢◌, ◌⊎◌, ℕ, Bool, List, Option, codes}
use Rattle.clap.specs.Words.{Row, Text}
use Rattle.edit_base.specs.declared.errors.Error.{Error}
use Rattle.edit_program.specs.SetVersionCauses.{IsSetVersionCause}
use Rattle.edit_program.specs.SetVersions.{AreVersionsSet, IsSettingInterrupted}
use Rattle.edit_program.specs.declared.set_version_run.set_version_args.SetVersionArgs.{SetVersionArgs}
use Rattle.edit_store.specs.Store.{SameFiles, StoreView}
use Rattle.edit_program.specs.UpgradeCauses.{IsLookupsCause, IsUpgradeCause}
use Rattle.edit_program.specs.PrintedLookups.{AreLookupsPrinted}
use Rattle.edit_program.specs.Upgrading.{IsBroken, IsUpgraded}
use Rattle.edit_program.specs.declared.upgrade_run.upgrade_args.UpgradeArgs.{UpgradeArgs}
use Rattle.edit_program.specs.Presented.{status_after}
use Rattle.edit_program.specs.Run.{Run}
use Rattle.edit_program.specs.ParsedUpgrade.{HasUpgradeArgs, HaveUpgradeFault}
use Rattle.edit_program.specs.ParsedSetVersion.{HasSetVersionArgs, HaveVersionFault}

-- the selected manifests are upgraded, after the plan is printed; the status is 1 where `--check` is given
-- and the plan has an output
pub record HasUpgraded (rows : List Row) (status : ℕ)
    (Prints Reports : List ℕ → Type 0) (run : Run)
    : Type 0 where
  pub args : UpgradeArgs
  pub asks : HasUpgradeArgs rows args
  pub due : Bool
  pub upgraded : IsUpgraded due Prints Reports args run
  pub ends : status ≡ status_after rows due

-- the upgrade of the selected manifests failed, at a write or after all of them
pub record HasBroken (rows : List Row) (Prints : List ℕ → Type 0) (run : Run) : Type 0 where
  pub args : UpgradeArgs
  pub asks : HasUpgradeArgs rows args
  pub broken : IsBroken Prints args run

-- the cause of an error of `upgrade` with these arguments
pub record HasUpgradeCause (rows : List Row) (Prints : List ℕ → Type 0) (run : Run) (e : Error) : Type 0 where
  pub args : UpgradeArgs
  pub asks : HasUpgradeArgs rows args
  pub cause : IsUpgradeCause Prints args run e

-- the lookups that the upgrade needs are printed, and each file is unchanged
pub record HasPrintedLookups (rows : List Row)
    (Prints : List ℕ → Type 0) (current : List ℕ) (home : Option (List ℕ))
    (old new : StoreView) : Type 0 where
  pub args : UpgradeArgs
  pub asks : HasUpgradeArgs rows args
  pub printed : AreLookupsPrinted Prints args current home old.file_at
  pub unchanged : SameFiles old.file_at new.file_at

-- the cause of an error of `looks` with these arguments; each file is unchanged
pub record HasLookupsCause (rows : List Row) (current : List ℕ) (home : Option (List ℕ)) (old new : StoreView)
    (e : Error) : Type 0 where
  pub args : UpgradeArgs
  pub asks : HasUpgradeArgs rows args
  pub cause : IsLookupsCause args current home old new e
  pub unchanged : SameFiles old.file_at new.file_at

-- the requested versions are set, after the plan is printed; the status is 1 where `--check` is given and
-- the plan has an output
pub record HasSetVersions (rows : List Row) (status : ℕ)
    (Prints Reports : List ℕ → Type 0) (current : List ℕ)
    (old new : StoreView) : Type 0 where
  pub args : SetVersionArgs
  pub asks : HasSetVersionArgs rows args
  pub due : Bool
  pub set : AreVersionsSet Prints Reports args current due old new
  pub ends : status ≡ status_after rows due

-- the requested versions are planned and printed, but writing stopped at an output
pub record HasStoppedSetting (rows : List Row) (Prints Reports : List ℕ → Type 0) (current : List ℕ)
    (old new : StoreView) : Type 0 where
  pub args : SetVersionArgs
  pub asks : HasSetVersionArgs rows args
  pub stopped : IsSettingInterrupted Prints Reports args current old new

-- the cause of an error of `set-version` with these arguments
pub record HasSetVersionCause (rows : List Row) (current : List ℕ) (old new : StoreView) (e : Error)
    : Type 0 where
  pub args : SetVersionArgs
  pub asks : HasSetVersionArgs rows args
  pub cause : IsSetVersionCause args current old new e

-- a subcommand that the program does not have
pub record IsAnother (name : Text) : Type 0 where
  pub no_upgrade : name ≢ codes "upgrade"
  pub no_lookups : name ≢ codes "looks"
  pub no_set_version : name ≢ codes "set-version"

-- a subcommand that the program does not have, or arguments that cannot be used
abbrev pub HasSubcommandUsageError : Text → List Row → Type 0
HasSubcommandUsageError name rows =
    IsAnother name
    ⊎ (((name ≡ codes "upgrade") × HaveUpgradeFault rows)
    ⊎ (((name ≡ codes "looks") × HaveUpgradeFault rows)
    ⊎ ((name ≡ codes "set-version") × HaveVersionFault rows)))

-- a subcommand succeeded, with this exit status
abbrev pub IsDoneBy : Text → List Row → ℕ → (List ℕ → Type 0) → (List ℕ → Type 0) → Run → Type 0
IsDoneBy name rows status Prints Reports run =
    ((name ≡ codes "upgrade") × HasUpgraded rows status Prints Reports run)
    ⊎ (((name ≡ codes "looks") × (status ≡ 0)
    × HasPrintedLookups rows Prints run.current run.home run.old run.new)
    ⊎ ((name ≡ codes "set-version")
    × HasSetVersions rows status Prints Reports run.current run.old run.new))

-- a subcommand failed at a write, or after all of them
abbrev pub IsBrokenBy : Text → List Row → (List ℕ → Type 0) → (List ℕ → Type 0) → Run → Type 0
IsBrokenBy name rows Prints Reports run =
    ((name ≡ codes "upgrade") × HasBroken rows Prints run)
    ⊎ ((name ≡ codes "set-version") × HasStoppedSetting rows Prints Reports run.current run.old run.new)

-- the cause of an error of a subcommand, other than out of memory, and its effect on the files
abbrev pub IsCauseBy : Text → List Row → (List ℕ → Type 0) → Run → Error → Type 0
IsCauseBy name rows Prints run e =
    ((name ≡ codes "upgrade") × HasUpgradeCause rows Prints run e)
    ⊎ (((name ≡ codes "looks") × HasLookupsCause rows run.current run.home run.old run.new e)
    ⊎ ((name ≡ codes "set-version") × HasSetVersionCause rows run.current run.old run.new e))
