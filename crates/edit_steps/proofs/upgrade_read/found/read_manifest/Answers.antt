use Rattle.std.proofs.Common.{inr, string_bytes}
use Rattle.edit_sources.specs.Configured.{given}
use Rattle.edit_steps.proofs.FoundLemmas.{folder_there, unfound_cause}
use Rattle.edit_steps.proofs.ErrorLemmas.{unfound_error}
use Rattle.edit_steps.proofs.ErrorFields.{failure_has}
use Rattle.edit_steps.proofs.upgrade_read.found.read_manifest.Goals as goal

pub returns-in-Ok-None-clause-error : goal.returns-in-Ok-None-clause-error
returns-in-Ok-None-clause-error g c =
    let none = rw c.in-Ok-None.field-0-is at c.in-Ok-None.ensures.bytes in
    inr (folder_there (g.S.Store.view c.args.files.now) (g.S.Store.view c.manifest_path.new.files)
    c.args.current.now (given c.args.named) (string_bytes c.in_ok-path.path) c.as_str.result.now _
    c.in_ok-path.ensures.store c.at_path.ensures.error c.as_str.ensures.value c.in_ok-path.ensures.found none)

pub returns-in_err-path-clause-error : goal.returns-in_err-path-clause-error
returns-in_err-path-clause-error g c =
    failure_has c.from_residual.result c.in_err-path.field-0.0 _ c.from_residual.ensures.1
    (unfound_cause (g.S.Store.view c.args.files.now) (g.S.Store.view c.manifest_path.new.files)
    c.args.current.now (given c.args.named) c.in_err-path.field-0.0.error c.in_err-path.ensures.error)

pub returns-in_err-path-clause-only : goal.returns-in_err-path-clause-only
returns-in_err-path-clause-only g c =
    failure_has c.from_residual.result c.in_err-path.field-0.0 _ c.from_residual.ensures.1
    (unfound_error (g.S.Store.view c.args.files.now) (g.S.Store.view c.manifest_path.new.files)
    c.args.current.now (given c.args.named) c.in_err-path.field-0.0.error c.in_err-path.ensures.only)
