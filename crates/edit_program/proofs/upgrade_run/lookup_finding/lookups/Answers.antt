use Rattle.std.proofs.Common.{refl, subst, sym}
use Rattle.std.specs.Prelude.{◌⊎◌, string_bytes}
use Rattle.edit_sources.specs.Configured.{given}
use Rattle.edit_steps.proofs.ErrorFields.{failure_has}
use Rattle.edit_steps.specs.Causes.{IsFailure, IsReadCause}
use Rattle.edit_steps.specs.Errors.{IsSourceError}
use Rattle.edit_steps.specs.Sources.{AreRead}
use Rattle.edit_program.specs.UpgradeCauses.{IsLookupsCause}
use Rattle.edit_program.proofs.LookupLemmas.{unplanned_cause, unread_cause}
use Rattle.edit_program.proofs.upgrade_run.lookup_finding.lookups.Goals as goal

pub returns-in_err-sources-clause-why : goal.returns-in_err-sources-clause-why
returns-in_err-sources-clause-why g c =
    let args = c.args.args.now in
    let current = c.args.current.now in
    let home = given c.args.cargo_home in
    let old = g.S.Store.view c.args.files.now in
    let new = g.S.Store.view c.read_sources.new.files in
    let e = c.in_err-sources.field-0.0 in
    failure_has c.from_residual.result e (λ error. IsLookupsCause args current home old new error)
    c.from_residual.ensures.1
    (unread_cause args current home old new e.error
    (subst (λ a. IsReadCause current home a old new e.error) c.to_lookup_request.ensures
    c.in_err-sources.ensures.error)
    (subst (λ a. IsFailure old new e.error ⊎ IsSourceError current a e.error) c.to_lookup_request.ensures
    c.in_err-sources.ensures.only))

pub returns-clause-why : goal.returns-clause-why
returns-clause-why g c =
    let args = c.args.args.now in
    let current = c.args.current.now in
    let home = given c.args.cargo_home in
    let old = g.S.Store.view c.args.files.now in
    let new = g.S.Store.view c.explain_upgrade.new.files in
    let s = c.in_ok-sources.sources in
    subst (λ e. IsLookupsCause args current home old new e) (sym c.explain_upgrade.ensures.same)
    (unplanned_cause args current home old new s c.in-Err.failure.error
    (λ t. subst (λ a. AreRead old.file_at current home a s) c.to_lookup_request.ensures
    (c.in_ok-sources.ensures.read t))
    c.in-Err.ensures.error)

pub returns-in-Ok-clause-done : goal.returns-in-Ok-clause-done
returns-in-Ok-clause-done g c = λ t.
    let s = c.in_ok-sources.sources in
    record {
      sources = s;
      text = string_bytes c.in-Ok.lines;
      read = subst (λ a. AreRead (g.S.Store.view c.args.files.now).file_at c.args.current.now
          (given c.args.cargo_home) a s) c.to_lookup_request.ensures (c.in_ok-sources.ensures.read t);
      lines = c.in-Ok.ensures.lines;
      shows = refl;
    }
