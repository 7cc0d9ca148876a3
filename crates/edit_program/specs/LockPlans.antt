-- The plan of an upgrade, for the steps that bring the lock file up to it.
use Rattle.std.specs.Prelude.{◌≡◌, ℕ, List, Option}
use Rattle.clap.specs.Words.{Row}
use Rattle.edit_store.specs.Store.{Files, StoreView}
use Rattle.edit_upgrade.specs.declared.upgrade.UpgradePlan.{UpgradePlan}
use Rattle.edit_program.specs.Followed.{IsReady}
use Rattle.edit_program.specs.ParsedUpgrade.{HasUpgradeArgs}
use Rattle.edit_program.specs.Upgrading.{IsPlannedFor, IsRevisedFor}
use Rattle.edit_program.specs.declared.upgrade_run.following.Readings.{Readings}
use Rattle.edit_program.specs.declared.upgrade_run.lock_planning.LockPlan.{LockPlan}
use Rattle.edit_program.specs.declared.upgrade_run.upgrade_args.UpgradeArgs.{UpgradeArgs}

-- the given files were read and planned by the policy, and the plan is unified and restricted to chosen
-- rows, if that is requested; the options, the bound and the policy of crates are those of the run (own)
pub record IsLockPlan (args : UpgradeArgs) (current : List ℕ) (home : Option (List ℕ)) (local : StoreView)
    (files : Files) (p : LockPlan) : Type 0 where
  pub readings : Readings
  pub single : UpgradePlan
  pub apart : List (List ℕ)
  pub ready : IsReady args current home files readings
  pub planned : IsPlannedFor readings local single
  pub revised : IsRevisedFor readings single p.plan apart
  pub options : p.options ≡ readings.args.options
  pub bound : p.published_before ≡ readings.args.published_before
  pub crates : p.crates ≡ readings.policy.crates

-- the same for the arguments that were parsed (own)
pub record HasLockPlan (rows : List Row) (current : List ℕ) (home : Option (List ℕ)) (local : StoreView)
    (files : Files) (p : LockPlan) : Type 0 where
  pub args : UpgradeArgs
  pub asks : HasUpgradeArgs rows args
  pub planned : IsLockPlan args current home local files p
