use Rattle.std.proofs.Common.{List, Option, String, inl, inr, map, option_map, refl, string_bytes, subst, ⊎_elim}
use Rattle.std.specs.declared.alloc.Global.{Global}
use Rattle.std.specs.Prelude.{◌⊎◌}
use Rattle.edit_base.specs.Errors.{IsMemory}
use Rattle.edit_base.specs.declared.errors.Error.{Error}
use Rattle.edit_choice.specs.declared.items.RowChoice.{RowChoice}
use Rattle.edit_report.specs.declared.row.Row.{Row}
use Rattle.edit_steps.specs.Shared.{lists_for}
use Rattle.edit_unify.specs.Apart.{AreNames, apart_names}
use Rattle.edit_unify.specs.Stands.{stands_of}
use Rattle.edit_upgrade.proofs.PlannedLemmas.{failure-has}
use Rattle.edit_upgrade.specs.OptionLevels.{level_in}
use Rattle.edit_program.specs.Choosing.{HasMissingRow, IsChosenOrSame}
use Rattle.edit_program.specs.Revising.{IsRevisionError}
use Rattle.edit_program.proofs.RevisionLemmas.{plan_rows_of}
use Rattle.edit_program.proofs.upgrade_run.revising.revise.Goals as goal

pub choose_plan-requires-clause-rows : goal.choose_plan-requires-clause-rows
choose_plan-requires-clause-rows c =
    plan_rows_of c.args.args.now.unify (level_in c.args.args.now.options) c.args.target.now.inputs.items
    (lists_for c.args.configs.now) c.args.plan c.in_ok-unified.unified.plan
    (map (option_map string_bytes) c.in_ok-unified.unified.addresses.items) c.in_ok-unified.ensures.unified
    c.requires.rows

pub returns-clause-revised : goal.returns-clause-revised
returns-clause-revised c =
    let unified = c.in_ok-unified.unified in
    let addresses = map (option_map string_bytes) unified.addresses.items in
    let found = c.in_ok-apart.apart.items in
    record {
      unified = unified.plan;
      addresses = addresses;
      unifies = c.in_ok-unified.ensures.unified;
      chosen = subst (λ (o : Option RowChoice). IsChosenOrSame o c.args.target.now.inputs.items unified.plan
          c.in_ok-plan.plan) c.as_ref.ensures.value c.in_ok-plan.ensures.chosen;
      names = (
        found,
        refl,
        subst (λ (rs : List Row). AreNames (apart_names (stands_of addresses rs)) found) c.deref.ensures.value
            (subst (λ (known : List (Option (String Global))). AreNames (apart_names (stands_of
            (map (option_map string_bytes) known) c.deref.result.now)) found) c.deref-2.ensures.value
            c.in_ok-apart.ensures.names),
      );
    }

pub returns-in_err-plan-clause-error : goal.returns-in_err-plan-clause-error
returns-in_err-plan-clause-error c =
    let e = c.in_err-plan.field-0.0 in
    let unified = c.in_ok-unified.unified in
    failure-has c.from_residual-in_err-plan.result e (λ (x : Error). IsMemory x
    ⊎ IsRevisionError c.args.args.now c.args.target.now.inputs.items (lists_for c.args.configs.now) c.args.plan x)
    c.from_residual-in_err-plan.ensures.1
    (⊎_elim (λ memory. inl memory) (λ missing. inr (record {
      unified = unified.plan;
      addresses = map (option_map string_bytes) unified.addresses.items;
      unifies = c.in_ok-unified.ensures.unified;
      missing = subst (λ (o : Option RowChoice). HasMissingRow o unified.plan.rows.items e)
          c.as_ref.ensures.value missing;
    })) c.in_err-plan.ensures.error)
