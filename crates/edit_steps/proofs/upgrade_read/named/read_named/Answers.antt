use Rattle.edit_steps.proofs.NamedLemmas.{last_lacks}
use Rattle.edit_steps.proofs.ErrorFields.{failure_has}
use Rattle.edit_steps.specs.RequestView.{request_view}
use Rattle.edit_base.specs.declared.errors.DeviceCall.TheVariants as call
use Rattle.edit_steps.proofs.ErrorLemmas.{only_on, counted_on, wider}
use Rattle.edit_steps.specs.Errors.{IsNamedError, IsPairError}
use Rattle.std.proofs.Common.{inr, ◌≡◌, inl, true}
use Rattle.edit_steps.specs.Causes.{LacksNamed}
use Rattle.edit_steps.specs.Named.{HasNoFile}
use Rattle.edit_store.specs.Store.{IsCallError}
use Rattle.edit_steps.specs.Faults.{CountsFault}
use Rattle.edit_steps.proofs.upgrade_read.named.read_named.Goals as goal

pub returns-in_err-last-clause-error : goal.returns-in_err-last-clause-error
returns-in_err-last-clause-error g c =
    failure_has c.from_residual-in_err-last.result c.in_err-last.field-0.0 _
    c.from_residual-in_err-last.ensures.1
    (last_lacks (g.S.Store.view c.args.files.now) (g.S.Store.view c.read_file.new.files)
    (g.S.Store.view c.read_file-2.new.files) c.args.current.now (request_view c.args.request.now)
    c.in_err-last.field-0.0.error c.in_ok-first.ensures.store c.in_err-last.ensures.error)

pub returns-in_err-last-clause-only : goal.returns-in_err-last-clause-only
returns-in_err-last-clause-only g c =
    let asking = request_view c.args.request.now in
    let e = c.in_err-last.field-0.0.error in
    failure_has c.from_residual-in_err-last.result c.in_err-last.field-0.0 _
    c.from_residual-in_err-last.ensures.1
    (only_on call.Read (g.S.Store.view c.args.files.now) (g.S.Store.view c.read_file.new.files)
    (g.S.Store.view c.read_file-2.new.files) e (IsNamedError asking.default_config e) (IsPairError asking e)
    c.in_ok-first.ensures.store (λ absent. inr absent) c.in_err-last.ensures.only)

pub returns-in_err-first-clause-error : goal.returns-in_err-first-clause-error
returns-in_err-first-clause-error g c =
    let old = g.S.Store.view c.args.files.now in
    let asking = request_view c.args.request.now in
    let e = c.in_err-first.field-0.0.error in
    failure_has c.from_residual.result c.in_err-first.field-0.0 _ c.from_residual.ensures.1
    (wider (IsCallError call.Read old (g.S.Store.view c.read_file.new.files) e)
    (old.tells ≡ true → HasNoFile old.file_at c.args.current.now asking.config e)
    (old.tells ≡ true → LacksNamed old.file_at c.args.current.now asking e) (λ lacks t. inl (lacks t))
    c.in_err-first.ensures.error)

pub returns-in_err-first-clause-only : goal.returns-in_err-first-clause-only
returns-in_err-first-clause-only g c =
    let asking = request_view c.args.request.now in
    let e = c.in_err-first.field-0.0.error in
    failure_has c.from_residual.result c.in_err-first.field-0.0 _ c.from_residual.ensures.1
    (wider (IsCallError call.Read (g.S.Store.view c.args.files.now) (g.S.Store.view c.read_file.new.files) e)
    (IsNamedError asking.config e) (IsPairError asking e) (λ absent. inl absent) c.in_err-first.ensures.only)

pub returns-in_err-last-clause-counted : goal.returns-in_err-last-clause-counted
returns-in_err-last-clause-counted g c =
    let old = g.S.Store.view c.args.files.now in
    let new = g.S.Store.view c.read_file-2.new.files in
    failure_has c.from_residual-in_err-last.result c.in_err-last.field-0.0 (λ e. CountsFault old new e)
    c.from_residual-in_err-last.ensures.1
    (counted_on old (g.S.Store.view c.read_file.new.files) new c.in_err-last.field-0.0.error
    c.in_ok-first.ensures.store c.in_err-last.ensures.counted)
