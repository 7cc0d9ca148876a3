use Rattle.std.proofs.Common.{refl}
use Rattle.edit_sources.specs.Configured.{given}
use Rattle.edit_steps.proofs.ErrorFields.{failure_has}
use Rattle.edit_program.specs.PlannedUpgrades.{apart_in, prints_nothing, readings_of}
use Rattle.edit_program.specs.Run.{run_at}
use Rattle.edit_program.specs.UpgradeCauses.{IsUpgradeCause}
use Rattle.edit_program.proofs.upgrade_run.lock_planning.plan_lock.Goals as goal

pub returns-in_err-planned-clause-why : goal.returns-in_err-planned-clause-why
returns-in_err-planned-clause-why g c =
    failure_has c.from_residual.result c.in_err-planned.field-0.0
    (λ error. IsUpgradeCause prints_nothing c.args.args.now
    (run_at c.args.place.now.current.now (given c.args.place.now.cargo_home)
    (g.T.Store.view c.args.index_files) (g.S.Store.view c.args.files.now)
    (g.S.Store.view c.read_and_plan.new.files)) error)
    c.from_residual.ensures.1 c.in_err-planned.ensures.why

pub returns-clause-planned : goal.returns-clause-planned
returns-clause-planned g c = λ t.
    let planned = c.in_ok-planned.ensures.planned in
    record {
      readings = readings_of c.in_ok-planned.planned planned.configs planned.index;
      single = planned.single;
      apart = apart_in c.in_ok-planned.planned;
      ready = planned.ready t;
      planned = planned.planned;
      revised = planned.revised;
      options = refl;
      bound = refl;
      crates = refl;
    }
