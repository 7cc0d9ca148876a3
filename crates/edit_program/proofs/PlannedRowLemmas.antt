-- The rows of a plan are those of the entries of its inputs, and the registries of these have addresses.
use Rattle.std.proofs.Common.{◌≡◌, ◌∙◌, length}
use Rattle.edit_sources.specs.Index.{IndexView}
use Rattle.edit_steps.specs.Shared.{lists_for}
use Rattle.edit_steps.specs.Sources.{MayBePlanned}
use Rattle.edit_steps.specs.declared.upgrade_read.sources.Sources.{Sources}
use Rattle.edit_upgrade.proofs.ConfigListLemmas.{chosen-length}
use Rattle.edit_upgrade.proofs.RevisedPlans.{addresses_of_plan, rows_of_plan}
use Rattle.edit_upgrade.specs.Revisions.{AreRowsOf, HaveAddresses}
use Rattle.edit_upgrade.specs.declared.decision.options.Options.{Options}
use Rattle.edit_upgrade.specs.declared.upgrade.UpgradePlan.{UpgradePlan}
use Rattle.edit_program.specs.Planned.{IsPlanned, cache_over, empty_answers}

-- there is a list of configurations for each input that was read
lists_long : (s : Sources) → MayBePlanned s → length (lists_for s.configs) ≡ length s.target.inputs.items
lists_long s may = chosen-length s.configs.lists.items s.configs.which.items may.lists ∙ may.each

-- the rows of a plan stand for the entries of its inputs
pub planned_rows : (o : Options) (s : Sources) (view : IndexView) (plan : UpgradePlan) → MayBePlanned s
    → IsPlanned o s.target.inputs.items (lists_for s.configs) view plan
    → AreRowsOf s.target.inputs.items plan.rows.items
planned_rows o s view plan may planned =
    rows_of_plan o s.target.inputs.items (lists_for s.configs) (cache_over view empty_answers)
    (cache_over view planned.cached) plan planned.is (lists_long s may)

-- and the registries of these have addresses
pub planned_addresses : (o : Options) (s : Sources) (view : IndexView) (plan : UpgradePlan) → MayBePlanned s
    → IsPlanned o s.target.inputs.items (lists_for s.configs) view plan
    → HaveAddresses s.target.inputs.items (lists_for s.configs)
planned_addresses o s view plan may planned =
    addresses_of_plan o s.target.inputs.items (lists_for s.configs) (cache_over view empty_answers)
    (cache_over view planned.cached) plan planned.is (lists_long s may)
