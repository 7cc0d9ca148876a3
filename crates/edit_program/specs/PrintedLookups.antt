-- The lookups that an upgrade needs, found without an index.
use Rattle.std.specs.Prelude.{◌≡◌, ℕ, List, Option}
use Rattle.std.specs.List.{flat_map}
use Rattle.edit_program.specs.LookupLines.{lookup_as_line}
use Rattle.edit_program.specs.Needed.{AreNeeded}
use Rattle.edit_store.specs.Store.{Files}
use Rattle.edit_upgrade.specs.Plans.{AreLookupsInOrder}
use Rattle.edit_upgrade.specs.Upgraded.{IsNeeded}
use Rattle.edit_upgrade.specs.declared.decision.options.Options.{Options}
use Rattle.edit_upgrade.specs.declared.upgrade.UpgradePlan.{UpgradePlan}
use Rattle.edit_metadata.specs.declared.input.Input.{Input}
use Rattle.edit_sources.specs.declared.config.Config.{Config}
use Rattle.std.specs.Global.{Vec}
use Rattle.edit_program.specs.NoIndex.{no_view}
use Rattle.edit_steps.specs.Shared.{lists_for}
use Rattle.edit_steps.specs.Sources.{AreRead}
use Rattle.edit_steps.specs.declared.upgrade_read.sources.Sources.{Sources}
use Rattle.edit_program.specs.Planned.{IsPlanned, to_request}
use Rattle.edit_program.specs.declared.upgrade_run.upgrade_args.UpgradeArgs.{UpgradeArgs}

-- the lines of the lookups that a plan for these inputs makes over an empty index, in the order in which
-- the inputs need them: one for each pair of address and name
pub record AreLinesOf (o : Options) (inputs : List Input) (configs : List (Vec Config)) (text : List ℕ)
    : Type 0 where
  pub plan : UpgradePlan
  pub planned : IsPlanned o inputs configs no_view plan
  pub needed : AreNeeded (IsNeeded inputs configs) plan.looks.items
  pub in_order : AreLookupsInOrder inputs configs plan
  pub is : text ≡ flat_map lookup_as_line plan.looks.items

-- the given files were read, but no index, and the lines of the lookups are printed
pub record AreLookupsPrinted (Prints : List ℕ → Type 0) (args : UpgradeArgs) (current : List ℕ)
    (home : Option (List ℕ)) (files : Files) : Type 0 where
  pub sources : Sources
  pub text : List ℕ
  pub read : AreRead files current home (to_request args) sources
  pub lines : AreLinesOf args.options sources.target.inputs.items (lists_for sources.configs) text
  pub shows : Prints text
