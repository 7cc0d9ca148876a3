use Rattle.std.proofs.Common.{Bool, ap, map, option_map, refl, string_bytes, subst, sym}
use Rattle.std.specs.Prelude.{IfOk}
use Rattle.edit_steps.specs.Shared.{lists_for}
use Rattle.edit_upgrade.specs.OptionLevels.{level_in}
use Rattle.edit_version.specs.Levels.{CrateBounds}
use Rattle.edit_program.specs.Unifying.{IsUnifiedOrSame, IsUnifiedOver}
use Rattle.edit_program.proofs.upgrade_run.revising.unify_plan.Goals as goal

pub returns-then-not-args-clause-unified : goal.returns-then-not-args-clause-unified
returns-then-not-args-clause-unified c =
    subst (λ (due : Bool). IsUnifiedOrSame due (level_in c.args.args.now.options) c.args.target.now.inputs.items
    (lists_for c.args.configs.now) c.args.plan c.args.plan (map (option_map string_bytes) c.new.result.items))
    (sym c.if-not-args.true) (refl, ap (map (option_map string_bytes)) c.new.ensures.items)

pub returns-clause-unified : goal.returns-clause-unified
returns-clause-unified c =
    subst (λ (due : Bool). IfOk c.unified_plan.result (λ u. IsUnifiedOrSame due (level_in c.args.args.now.options)
    c.args.target.now.inputs.items (lists_for c.args.configs.now) c.args.plan u.plan
    (map (option_map string_bytes) u.addresses.items)))
    (sym c.if-not-args.false)
    (subst (λ (level : CrateBounds). IfOk c.unified_plan.result (λ u. IsUnifiedOver level
    c.args.target.now.inputs.items (lists_for c.args.configs.now) c.args.plan u.plan
    (map (option_map string_bytes) u.addresses.items)))
    c.levels.ensures c.unified_plan.ensures.unified)
