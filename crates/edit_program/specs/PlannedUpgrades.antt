-- An upgrade that is planned, before anything is printed or written.
use Rattle.std.specs.Prelude.{◌≡◌, ℕ, List, Option, map, string_bytes, true}
use Rattle.edit_steps.specs.Sources.{MayBePlanned}
use Rattle.edit_steps.specs.declared.upgrade_read.index.IndexSource.{IndexSource}
use Rattle.edit_steps.specs.declared.upgrade_read.shared.SharedConfigs.{SharedConfigs}
use Rattle.edit_store.specs.Store.{StoreView}
use Rattle.edit_upgrade.specs.declared.upgrade.UpgradePlan.{UpgradePlan}
use Rattle.edit_program.specs.Followed.{AreByPolicy, IsReady}
use Rattle.edit_program.specs.Upgrading.{IsPlannedFor, IsRevisedFor}
use Rattle.edit_program.specs.declared.upgrade_run.following.Readings.{Readings}
use Rattle.edit_program.specs.declared.upgrade_run.planning.PlannedUpgrade.{PlannedUpgrade}
use Rattle.edit_program.specs.declared.upgrade_run.upgrade_args.UpgradeArgs.{UpgradeArgs}

-- no text is printed (own)
abbrev pub prints_nothing : List ℕ → Type 0
prints_nothing text = ⊥

-- what was read for a planned upgrade, with these configurations and this index (own)
abbrev pub readings_of : PlannedUpgrade → SharedConfigs → IndexSource → Readings
readings_of p configs index = record {
  sources = record { target = p.target; configs = configs };
  index = index;
  lock = p.lock;
  policy = p.policy;
  args = p.args;
}

-- the names of the crates that a planned upgrade leaves in more than one compatible range (own)
abbrev pub apart_in : PlannedUpgrade → List (List ℕ)
apart_in p = map string_bytes p.revised.apart.items

-- the given files were read and planned by the policy, and the plan is unified and restricted to chosen
-- rows, if that is requested (own)
pub record IsPlannedUpgrade (args : UpgradeArgs) (current : List ℕ) (home : Option (List ℕ))
    (local old : StoreView) (p : PlannedUpgrade) : Type 0 where
  pub configs : SharedConfigs
  pub index : IndexSource
  pub single : UpgradePlan
  pub ready : old.tells ≡ true → IsReady args current home old.file_at (readings_of p configs index)
  -- over any store
  pub by_policy : AreByPolicy args (readings_of p configs index)
  pub planned_over : MayBePlanned (readings_of p configs index).sources
  pub planned : IsPlannedFor (readings_of p configs index) local single
  pub revised : IsRevisedFor (readings_of p configs index) single p.revised.plan (apart_in p)
