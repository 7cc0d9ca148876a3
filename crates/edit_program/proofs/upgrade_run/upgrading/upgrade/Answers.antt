use Rattle.std.proofs.Common.{refl, rules, subst, sym}
use Rattle.std.specs.Prelude.{string_bytes}
use Rattle.edit_sources.specs.Configured.{given}
use Rattle.edit_steps.proofs.ErrorFields.{failure_has, failure_made}
use Rattle.edit_steps.specs.Shared.{lists_for}
use Rattle.edit_program.proofs.DeliveryLemmas.{calls_cause}
use Rattle.edit_program.proofs.OrderLemmas.{warnings_in_order}
use Rattle.edit_program.proofs.RevisedOrderLemmas.{revised_outputs, revised_rows}
use Rattle.edit_program.proofs.RevisionLemmas.{revised_warnings}
use Rattle.edit_program.proofs.UpgradeCauseLemmas.{stop_cause}
use Rattle.edit_program.specs.Counted.{CountsEitherFault}
use Rattle.edit_program.specs.PlannedUpgrades.{apart_in, prints_nothing, readings_of}
use Rattle.edit_program.specs.Run.{run_at}
use Rattle.edit_program.specs.StderrText.{AreWarningsInOrder}
use Rattle.edit_program.specs.UpgradeCauses.{IsUpgradeCause}
use Rattle.edit_program.specs.UpgradeEffects.{AreReportsOf}
use Rattle.edit_program.specs.Upgrading.{IsPathOf, delivery_for}
use Rattle.edit_program.proofs.upgrade_run.upgrading.upgrade.Goals as goal

pub returns-in_err-planned-clause-why : goal.returns-in_err-planned-clause-why
returns-in_err-planned-clause-why g c =
    failure_has c.from_residual-in_err-planned.result c.in_err-planned.field-0.0
    (λ error. IsUpgradeCause prints_nothing c.args.args.now
    (run_at c.args.place.now.current.now (given c.args.place.now.cargo_home)
    (g.T.Store.view c.args.index_files) (g.S.Store.view c.args.files.now)
    (g.S.Store.view c.read_and_plan.new.files)) error)
    c.from_residual-in_err-planned.ensures.1 c.in_err-planned.ensures.why

pub returns-in_err-planned-clause-counted : goal.returns-in_err-planned-clause-counted
returns-in_err-planned-clause-counted g c =
    let old = g.S.Store.view c.args.files.now in
    let mid = g.S.Store.view c.read_and_plan.new.files in
    failure_has c.from_residual-in_err-planned.result c.in_err-planned.field-0.0
    (λ error. CountsEitherFault g.T.Store.view c.args.index_files old mid error)
    c.from_residual-in_err-planned.ensures.1 c.in_err-planned.ensures.counted

pub reports_for-requires-clause-rows : goal.reports_for-requires-clause-rows
reports_for-requires-clause-rows g c =
    let p = c.in_ok-planned.planned in
    let planned = c.in_ok-planned.ensures.planned in
    let r = readings_of p planned.configs planned.index in
    revised_rows r.args r.sources.target.inputs.items (lists_for r.sources.configs) planned.single
    p.revised.plan (apart_in p) planned.planned.is.rows_in_order planned.revised

pub reports_for-requires-clause-warnings : goal.reports_for-requires-clause-warnings
reports_for-requires-clause-warnings g c =
    let p = c.in_ok-planned.planned in
    let planned = c.in_ok-planned.ensures.planned in
    let r = readings_of p planned.configs planned.index in
    let same = revised_warnings r.args r.sources.target.inputs.items (lists_for r.sources.configs)
    planned.single p.revised.plan (apart_in p) planned.revised in
    subst (λ ws. AreWarningsInOrder ws.items) (sym same)
    (warnings_in_order r.sources.target.inputs.items planned.single planned.planned.is.warnings_in_order)

pub returns-in_err-reports-clause-why : goal.returns-in_err-reports-clause-why
returns-in_err-reports-clause-why g c =
    let args = c.args.args.now in
    let current = c.args.place.now.current.now in
    let home = given c.args.place.now.cargo_home in
    let local = g.T.Store.view c.args.index_files in
    let old = g.S.Store.view c.args.files.now in
    let mid = g.S.Store.view c.read_and_plan.new.files in
    let p = c.in_ok-planned.planned in
    let planned = c.in_ok-planned.ensures.planned in
    let r = readings_of p planned.configs planned.index in
    let path = given c.as_deref.result in
    let d = delivery_for r current p.revised.plan (apart_in p) path in
    let at = subst (IsPathOf current (given args.update_calls)) (sym c.as_deref.ensures.value)
    c.in_ok-named.ensures.path in
    let e = c.in_err-reports.field-0.0 in
    failure_made c.from_residual-in_err-reports.result e
    (λ error. IsUpgradeCause prints_nothing args (run_at current home local old mid) error)
    c.from_residual-in_err-reports.ensures.1
    (stop_cause prints_nothing args current home local old mid mid r planned.single p.revised.plan (apart_in p)
    path e c.in_ok-planned.ensures.reads planned.by_policy planned.ready planned.planned planned.revised at
    (calls_cause prints_nothing d mid e c.in_err-reports.ensures.error))

pub returns-clause-effects : goal.returns-clause-effects
returns-clause-effects g c =
    let args = c.args.args.now in
    let current = c.args.place.now.current.now in
    let p = c.in_ok-planned.planned in
    let planned = c.in_ok-planned.ensures.planned in
    let r = readings_of p planned.configs planned.index in
    let path = given c.as_deref.result in
    let d = delivery_for r current p.revised.plan (apart_in p) path in
    let made = c.in_ok-reports.reports in
    let at = subst (IsPathOf current (given args.update_calls)) (sym c.as_deref.ensures.value)
    c.in_ok-named.ensures.path in
    record {
      planned = p;
      path = path;
      is = planned;
      at = at;
      effects = record {
        reports = subst (λ error. AreReportsOf d made.messages.items (string_bytes made.calls)
            made.calls_file.items error made.notes.items) (sym c.explain_error-failure.ensures)
            c.in_ok-reports.ensures.reports;
        diffs = c.in_ok-diffs.ensures p.revised.plan.outputs.items;
        outputs = refl;
        writes = search rules;
      };
    }

pub returns-clause-own : goal.returns-clause-own
returns-clause-own g c =
    let p = c.in_ok-planned.planned in
    let planned = c.in_ok-planned.ensures.planned in
    let r = readings_of p planned.configs planned.index in (
      revised_outputs r.args r.sources.target.inputs.items (lists_for r.sources.configs) planned.single
          p.revised.plan (apart_in p) planned.planned_over.paths planned.planned.is.outputs_in_order
          planned.revised,
      c.in_ok-reports.ensures.own,
    )
