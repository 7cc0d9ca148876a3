use Rattle.std.proofs.Common.{◌≡◌, ◌≢◌, List, None, Option, inl, subst, sym}
use Rattle.std.specs.List.{flat_map}
use Rattle.std.specs.Prelude.{◌⊎◌, string_bytes}
use Rattle.edit_base.specs.Errors.{IsMemory, number_of}
use Rattle.edit_steps.specs.Shared.{lists_for}
use Rattle.std.specs.Global.{Vec}
use Rattle.edit_metadata.specs.declared.input.Input.{Input}
use Rattle.edit_restricted_index.specs.RestrictedIndex.{restricted_view}
use Rattle.edit_restricted_index.specs.Restrictions.{VersionTest}
use Rattle.edit_sources.specs.declared.config.Config.{Config}
use Rattle.edit_upgrade.specs.declared.decision.options.Options.{Options}
use Rattle.edit_upgrade.specs.declared.failure.PlanFailure.{PlanFailure}
use Rattle.edit_upgrade.specs.declared.upgrade.UpgradePlan.{UpgradePlan}
use Rattle.edit_program.specs.NoIndex.{no_view}
use Rattle.edit_program.specs.Planned.{IsPlanCause, IsPlanned}
use Rattle.edit_program.specs.LookupLines.{HasBadLookup, lookup_as_line}
use Rattle.edit_upgrade.proofs.PlannedLemmas.{failure-has, failure-of}
use Rattle.edit_program.proofs.LookupLemmas.{lines_refused, lookups_needed}
use Rattle.edit_program.proofs.CountLemmas.{memory_counts}
use Rattle.edit_program.proofs.IndexFaults.{none_raised}
use Rattle.edit_program.proofs.upgrade_run.lookup_finding.lines_for.Goals as goal

-- a plan over an index that nothing restricts
planned_whole : (o : Options) (inputs : List Input) (configs : List (Vec Config)) (plan : UpgradePlan)
    (test : Option VersionTest) → test ≡ None
    → IsPlanned o inputs configs (restricted_view test no_view) plan
    → IsPlanned o inputs configs no_view plan
planned_whole o inputs configs plan test none planned =
    subst (λ (t : Option VersionTest). IsPlanned o inputs configs (restricted_view t no_view) plan) none
    planned

pub returns-in_err-plan-clause-error : goal.returns-in_err-plan-clause-error
returns-in_err-plan-clause-error c =
    let o = c.args.options.now in
    let inputs = c.args.target.now.inputs.items in
    let configs = lists_for c.args.configs.now in
    let f = c.in_err-plan.field-0.0 in
    failure-has c.from_residual.result f
    (λ (x : PlanFailure). IsMemory x.error ⊎ IsPlanCause o inputs configs no_view x.error)
    c.from_residual.ensures.1
    (subst (λ (t : Option VersionTest).
    IsMemory f.error ⊎ IsPlanCause o inputs configs (restricted_view t no_view) f.error) c.none.ensures
    c.in_err-plan.ensures.error)

pub returns-clause-lines : goal.returns-clause-lines
returns-clause-lines c =
    let planned = planned_whole c.args.options.now c.args.target.now.inputs.items
    (lists_for c.args.configs.now) c.in_ok-plan.plan _ c.none.ensures c.in_ok-plan.ensures.planned in
    record {
      plan = c.in_ok-plan.plan;
      planned = planned;
      needed = lookups_needed c.args.options.now c.args.target.now.inputs.items (lists_for c.args.configs.now)
          c.in_ok-plan.plan planned;
      in_order = c.in_ok-plan.ensures.planned.is.lookups_in_order;
      is = subst (λ lookups. string_bytes c.in_ok-text.text ≡ flat_map lookup_as_line lookups)
          c.deref.ensures.value c.in_ok-text.ensures.text;
    }

pub returns-in_err-text-clause-error : goal.returns-in_err-text-clause-error
returns-in_err-text-clause-error c =
    let e = c.in_err-text.field-0.0 in
    let planned = planned_whole c.args.options.now c.args.target.now.inputs.items
    (lists_for c.args.configs.now) c.in_ok-plan.plan _ c.none.ensures c.in_ok-plan.ensures.planned in
    let memory = lines_refused c.args.options.now c.args.target.now.inputs.items
    (lists_for c.args.configs.now) c.in_ok-plan.plan e planned
    (subst (λ lookups. IsMemory e ⊎ HasBadLookup lookups (number_of e)) c.deref.ensures.value
    c.in_err-text.ensures.error) in
    failure-of c.from_residual-in_err-text.result e _ c.from_residual-in_err-text.ensures.1
    (λ f is. inl (subst IsMemory (sym is) memory))

pub returns-in_err-text-clause-counted : goal.returns-in_err-text-clause-counted
returns-in_err-text-clause-counted c =
    let e = c.in_err-text.field-0.0 in
    let planned = planned_whole c.args.options.now c.args.target.now.inputs.items
    (lists_for c.args.configs.now) c.in_ok-plan.plan _ c.none.ensures c.in_ok-plan.ensures.planned in
    let memory = lines_refused c.args.options.now c.args.target.now.inputs.items
    (lists_for c.args.configs.now) c.in_ok-plan.plan e planned
    (subst (λ lookups. IsMemory e ⊎ HasBadLookup lookups (number_of e)) c.deref.ensures.value
    c.in_err-text.ensures.error) in
    failure-of c.from_residual-in_err-text.result e _ c.from_residual-in_err-text.ensures.1
    (λ f is. memory_counts f.error (subst IsMemory (sym is) memory))

pub returns-in_err-plan-clause-counted : goal.returns-in_err-plan-clause-counted
returns-in_err-plan-clause-counted c =
    failure-has c.from_residual.result c.in_err-plan.field-0.0 (λ (f : PlanFailure). number_of f.error ≢ 3)
    c.from_residual.ensures.1
    (λ device. none_raised (c.in_err-plan.ensures.counted device).1)
