use Rattle.edit_sources.specs.Configured.{given}
use Rattle.edit_steps.specs.Named.{pair_of}
use Rattle.edit_base.specs.declared.errors.DeviceCall.TheVariants as call
use Rattle.edit_steps.proofs.ErrorLemmas.{only_before}
use Rattle.edit_steps.specs.Errors.{IsConfigError}
use Rattle.std.proofs.Common.{◌≡◌, true}
use Rattle.edit_steps.specs.Causes.{StopsAtInput}
use Rattle.edit_steps.proofs.upgrade_read.configs.read_configurations.Goals as goal

pub returns-in-Err-clause-only : goal.returns-in-Err-clause-only
returns-in-Err-clause-only g c =
    only_before call.Read (g.S.Store.view c.args.files.now) (g.S.Store.view c.read_all.new.files)
    (g.S.Store.view c.at_config.new.files) c.in-Err.error c.at_config.result.error IsConfigError
    c.at_config.ensures.reads c.at_config.ensures.counted c.at_config.ensures.same c.in-Err.ensures.only

pub returns-in-Err-clause-error : goal.returns-in-Err-clause-error
returns-in-Err-clause-error g c =
    let old = g.S.Store.view c.args.files.now in
    only_before call.Read old (g.S.Store.view c.read_all.new.files) (g.S.Store.view c.at_config.new.files)
    c.in-Err.error c.at_config.result.error (λ e. old.tells ≡ true
    → StopsAtInput old.file_at (given c.args.cargo_home) (pair_of c.args.named.now) c.args.inputs.now e)
    c.at_config.ensures.reads c.at_config.ensures.counted c.at_config.ensures.same c.in-Err.ensures.error
