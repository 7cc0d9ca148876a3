use Rattle.std.proofs.Common.{◌≡◌, ◌∙◌, ap, inl, inr, subst, sym, true}
use Rattle.edit_base.specs.Errors.{number_of}
use Rattle.edit_metadata.proofs.InputLemmas.{reads-on}
use Rattle.edit_restricted_index.specs.VersionTests.{test_of}
use Rattle.edit_sources.specs.Configured.{given}
use Rattle.edit_steps.proofs.ErrorFields.{failure_has, failure_made}
use Rattle.edit_steps.specs.Shared.{lists_for}
use Rattle.edit_program.specs.Counted.{CountsEitherFault}
use Rattle.edit_program.specs.Followed.{IsReady}
use Rattle.edit_program.specs.PlannedUpgrades.{prints_nothing}
use Rattle.edit_program.specs.Run.{run_at}
use Rattle.edit_program.specs.UpgradeCauses.{IsUpgradeCause}
use Rattle.edit_program.proofs.PlannedRowLemmas.{planned_addresses, planned_rows}
use Rattle.edit_program.proofs.RevisionLemmas.{revision_counts}
use Rattle.edit_program.proofs.UpgradeCauseLemmas.{plan_cause, policy_cause, revision_cause}
use Rattle.edit_program.proofs.UpgradeLemmas.{planned_for, unplanned_for, upgrade_test_is}
use Rattle.edit_program.proofs.upgrade_run.planning.read_and_plan.Goals as goal

pub returns-in_err-readings-clause-why : goal.returns-in_err-readings-clause-why
returns-in_err-readings-clause-why g c =
    let args = c.args.args.now in
    let current = c.args.place.now.current.now in
    let home = given c.args.place.now.cargo_home in
    let local = g.T.Store.view c.args.index_files in
    let old = g.S.Store.view c.args.files.now in
    let mid = g.S.Store.view c.read.new.files in
    let e = c.in_err-readings.field-0.0 in
    failure_has c.from_residual.result e
    (λ error. IsUpgradeCause prints_nothing args (run_at current home local old mid) error)
    c.from_residual.ensures.1
    (policy_cause prints_nothing args current home local old mid e.error c.read.ensures.store.files
    c.in_err-readings.ensures.only c.in_err-readings.ensures.error)

pub returns-in_err-readings-clause-counted : goal.returns-in_err-readings-clause-counted
returns-in_err-readings-clause-counted g c =
    let old = g.S.Store.view c.args.files.now in
    let mid = g.S.Store.view c.read.new.files in
    let e = c.in_err-readings.field-0.0 in
    failure_has c.from_residual.result e
    (λ error. CountsEitherFault g.T.Store.view c.args.index_files old mid error)
    c.from_residual.ensures.1 (λ device. inl (c.in_err-readings.ensures.counted device))

pub returns-in-Err-clause-reads : goal.returns-in-Err-clause-reads
returns-in-Err-clause-reads g c =
    reads-on (g.S.Store.view c.args.files.now) (g.S.Store.view c.read.new.files)
    (g.S.Store.view c.explain_upgrade.new.files) c.in_ok-readings.ensures.store c.explain_upgrade.ensures.reads

pub returns-in-Err-clause-why : goal.returns-in-Err-clause-why
returns-in-Err-clause-why g c =
    let args = c.args.args.now in
    let current = c.args.place.now.current.now in
    let home = given c.args.place.now.cargo_home in
    let local = g.T.Store.view c.args.index_files in
    let old = g.S.Store.view c.args.files.now in
    let mid = g.S.Store.view c.explain_upgrade.new.files in
    let r = c.in_ok-readings.readings in
    let ready : old.tells ≡ true → IsReady args current home old.file_at r = c.in_ok-readings.ensures.ready in
    let test = upgrade_test_is r c.as_ref.result c.as_slice.result.now
    (test_of c.index_restriction-restriction.result)
    c.as_ref.ensures.value c.as_slice.ensures.value c.index_restriction-restriction.ensures in
    subst (λ e. IsUpgradeCause prints_nothing args (run_at current home local old mid) e)
    (sym c.explain_upgrade.ensures.same)
    (plan_cause prints_nothing args current home local old mid r c.in-Err.failure.error
    (λ path. c.explain_upgrade.ensures.reads.files path ∙ c.in_ok-readings.ensures.store.files path)
    c.in_ok-readings.ensures.by_policy ready
    (unplanned_for r local c.in-Err.failure.error (test_of c.index_restriction-restriction.result) test
    c.in-Err.ensures.error))

pub returns-in-Err-clause-counted : goal.returns-in-Err-clause-counted
returns-in-Err-clause-counted g c device =
    inr (c.in-Err.ensures.counted (sym (ap number_of c.explain_upgrade.ensures.same) ∙ device))

pub revise-requires-clause-rows : goal.revise-requires-clause-rows
revise-requires-clause-rows g c =
    planned_rows c.in_ok-readings.readings.args.options c.in_ok-readings.readings.sources _ c.in-Ok.plan
    c.in_ok-readings.ensures.planned c.in-Ok.ensures.planned

pub revise-requires-clause-resolved : goal.revise-requires-clause-resolved
revise-requires-clause-resolved g c =
    planned_addresses c.in_ok-readings.readings.args.options c.in_ok-readings.readings.sources _ c.in-Ok.plan
    c.in_ok-readings.ensures.planned c.in-Ok.ensures.planned

pub returns-in_err-revised-clause-why : goal.returns-in_err-revised-clause-why
returns-in_err-revised-clause-why g c =
    let args = c.args.args.now in
    let current = c.args.place.now.current.now in
    let home = given c.args.place.now.cargo_home in
    let local = g.T.Store.view c.args.index_files in
    let old = g.S.Store.view c.args.files.now in
    let mid = g.S.Store.view c.read.new.files in
    let r = c.in_ok-readings.readings in
    let e = c.in_err-revised.field-0.0 in
    let ready : old.tells ≡ true → IsReady args current home old.file_at r = c.in_ok-readings.ensures.ready in
    let test = upgrade_test_is r c.as_ref.result c.as_slice.result.now
    (test_of c.index_restriction-restriction.result)
    c.as_ref.ensures.value c.as_slice.ensures.value c.index_restriction-restriction.ensures in
    failure_made c.from_residual-in_err-revised.result e
    (λ error. IsUpgradeCause prints_nothing args (run_at current home local old mid) error)
    c.from_residual-in_err-revised.ensures.1
    (revision_cause prints_nothing args current home local old mid r c.in-Ok.plan e
    c.in_ok-readings.ensures.store.files c.in_ok-readings.ensures.by_policy ready
    (planned_for r local c.in-Ok.plan (test_of c.index_restriction-restriction.result) test
    c.in-Ok.ensures.planned)
    c.in_err-revised.ensures.error)

pub returns-in_err-revised-clause-counted : goal.returns-in_err-revised-clause-counted
returns-in_err-revised-clause-counted g c =
    let r = c.in_ok-readings.readings in
    let old = g.S.Store.view c.args.files.now in
    let mid = g.S.Store.view c.read.new.files in
    let e = c.in_err-revised.field-0.0 in
    failure_made c.from_residual-in_err-revised.result e
    (λ error. CountsEitherFault g.T.Store.view c.args.index_files old mid error)
    c.from_residual-in_err-revised.ensures.1
    (revision_counts r.args r.sources.target.inputs.items (lists_for r.sources.configs) c.in-Ok.plan e
    c.in_err-revised.ensures.error)

pub returns-clause-planned : goal.returns-clause-planned
returns-clause-planned g c =
    let local = g.T.Store.view c.args.index_files in
    let r = c.in_ok-readings.readings in
    let test = upgrade_test_is r c.as_ref.result c.as_slice.result.now
    (test_of c.index_restriction-restriction.result)
    c.as_ref.ensures.value c.as_slice.ensures.value c.index_restriction-restriction.ensures in
    record {
      configs = r.sources.configs;
      index = r.index;
      single = c.in-Ok.plan;
      ready = c.in_ok-readings.ensures.ready;
      by_policy = c.in_ok-readings.ensures.by_policy;
      planned_over = c.in_ok-readings.ensures.planned;
      planned = planned_for r local c.in-Ok.plan (test_of c.index_restriction-restriction.result) test
          c.in-Ok.ensures.planned;
      revised = c.in_ok-revised.ensures.revised;
    }
