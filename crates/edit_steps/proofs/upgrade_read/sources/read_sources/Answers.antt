use Rattle.std.proofs.Common.{◌≡◌, ◌⊎◌, subst, true, inl, inr}
use Rattle.edit_base.specs.declared.errors.DeviceCall.TheVariants as call
use Rattle.edit_sources.specs.Configured.{given}
use Rattle.edit_steps.proofs.ErrorFields.{failure_has}
use Rattle.edit_store.specs.Store.{OnlyReads, IsCallError}
use Rattle.edit_steps.specs.RequestView.{request_view}
use Rattle.edit_steps.specs.Causes.{IsFailure, StopsAtInput}
use Rattle.edit_metadata.proofs.InputLemmas.{reads-on}
use Rattle.edit_steps.proofs.ReadLemmas.{before}
use Rattle.edit_steps.specs.Named.{AreConfigured, ArePairRead, pair_of}
use Rattle.edit_steps.specs.Shared.{lists_for}
use Rattle.edit_steps.proofs.ReadLemmas.{config_cause, named_cause, target_cause}
use Rattle.edit_steps.proofs.ErrorLemmas.{part_error, wider, counted_on}
use Rattle.edit_steps.specs.Errors.{IsConfigError, IsPairError, IsSourceError, IsTargetError}
use Rattle.edit_steps.specs.Faults.{CountsFault}
use Rattle.edit_steps.proofs.upgrade_read.sources.read_sources.Goals as goal

pub returns-in_err-target-clause-error : goal.returns-in_err-target-clause-error
returns-in_err-target-clause-error g c =
    failure_has c.from_residual.result c.in_err-target.field-0.0 _ c.from_residual.ensures.1
    (target_cause c.args.current.now (given c.args.cargo_home) (request_view c.args.request.now)
    (g.S.Store.view c.args.files.now) (g.S.Store.view c.read_target.new.files)
    c.in_err-target.field-0.0.error c.in_err-target.ensures.error)

pub returns-in_err-named-clause-error : goal.returns-in_err-named-clause-error
returns-in_err-named-clause-error g c =
    failure_has c.from_residual-in_err-named.result c.in_err-named.field-0.0 _
    c.from_residual-in_err-named.ensures.1
    (named_cause c.args.current.now (given c.args.cargo_home) (request_view c.args.request.now)
    (g.S.Store.view c.args.files.now) (g.S.Store.view c.read_target.new.files)
    (g.S.Store.view c.read_named.new.files) c.in_ok-target.target.workspace
    c.in_ok-target.target.inputs.items c.in_err-named.field-0.0.error c.in_ok-target.ensures.store
    c.in_ok-target.ensures.read c.in_err-named.ensures.error)

pub returns-in_err-configs-clause-error : goal.returns-in_err-configs-clause-error
returns-in_err-configs-clause-error g c =
    failure_has c.from_residual-in_err-configs.result c.in_err-configs.field-0.0 _
    c.from_residual-in_err-configs.ensures.1
    (config_cause c.args.current.now (given c.args.cargo_home) (request_view c.args.request.now)
    (g.S.Store.view c.args.files.now) (g.S.Store.view c.read_target.new.files)
    (g.S.Store.view c.read_named.new.files) (g.S.Store.view c.read_configurations.new.files)
    c.in_ok-target.target.workspace c.in_ok-target.target.inputs.items (pair_of c.in_ok-named.named)
    c.in_err-configs.field-0.0.error c.in_ok-target.ensures.store c.in_ok-named.ensures.store
    c.in_ok-target.ensures.read c.in_ok-named.ensures.read
    (subst (λ is. IsCallError call.Read (g.S.Store.view c.read_named.new.files)
    (g.S.Store.view c.read_configurations.new.files) c.in_err-configs.field-0.0.error
    ⊎ ((g.S.Store.view c.read_named.new.files).tells ≡ true
    → StopsAtInput (g.S.Store.view c.read_named.new.files).file_at (given c.args.cargo_home)
    (pair_of c.in_ok-named.named) is c.in_err-configs.field-0.0.error)) c.deref.ensures.value
    c.in_err-configs.ensures.error))

pub returns-clause-read : goal.returns-clause-read
returns-clause-read g c = λ t.
    let old = g.S.Store.view c.args.files.now in
    let found = g.S.Store.view c.read_target.new.files in
    let named = g.S.Store.view c.read_named.new.files in
    let current = c.args.current.now in
    let home = given c.args.cargo_home in
    let asking = request_view c.args.request.now in
    let pair = pair_of c.in_ok-named.named in
    let configs = lists_for c.in_ok-configs.configs in
    let upto : OnlyReads old named
    = reads-on old found named c.in_ok-target.ensures.store c.in_ok-named.ensures.store in
    record {
      target = c.in_ok-target.ensures.read t;
      pair = pair;
      named = before (λ files. ArePairRead files current asking pair) old found c.in_ok-target.ensures.store
          c.in_ok-named.ensures.read t;
      configured = before (λ files. AreConfigured files home pair c.in_ok-target.target.inputs.items configs)
          old named upto (λ u. subst (λ is. AreConfigured named.file_at home pair is configs)
          c.deref.ensures.value (c.in_ok-configs.ensures.read u)) t;
    }

pub returns-in_err-target-clause-only : goal.returns-in_err-target-clause-only
returns-in_err-target-clause-only g c =
    let asking = request_view c.args.request.now in
    let e = c.in_err-target.field-0.0.error in
    failure_has c.from_residual.result c.in_err-target.field-0.0 _ c.from_residual.ensures.1
    (wider (IsFailure (g.S.Store.view c.args.files.now) (g.S.Store.view c.read_target.new.files) e)
    (IsTargetError c.args.current.now asking.metadata asking.manifest e)
    (IsSourceError c.args.current.now asking e) (λ error. inl error) c.in_err-target.ensures.only)

pub returns-in_err-named-clause-only : goal.returns-in_err-named-clause-only
returns-in_err-named-clause-only g c =
    let asking = request_view c.args.request.now in
    let e = c.in_err-named.field-0.0.error in
    failure_has c.from_residual-in_err-named.result c.in_err-named.field-0.0 _
    c.from_residual-in_err-named.ensures.1
    (part_error (g.S.Store.view c.args.files.now) (g.S.Store.view c.read_target.new.files)
    (g.S.Store.view c.read_named.new.files) c.args.current.now asking e (IsPairError asking e)
    c.in_ok-target.ensures.store (λ error. inr (inl error)) c.in_err-named.ensures.only)

pub returns-in_err-configs-clause-only : goal.returns-in_err-configs-clause-only
returns-in_err-configs-clause-only g c =
    let old = g.S.Store.view c.args.files.now in
    let mid = g.S.Store.view c.read_named.new.files in
    let e = c.in_err-configs.field-0.0.error in
    failure_has c.from_residual-in_err-configs.result c.in_err-configs.field-0.0 _
    c.from_residual-in_err-configs.ensures.1
    (part_error old mid (g.S.Store.view c.read_configurations.new.files) c.args.current.now
    (request_view c.args.request.now) e (IsConfigError e)
    (reads-on old (g.S.Store.view c.read_target.new.files) mid c.in_ok-target.ensures.store
    c.in_ok-named.ensures.store) (λ error. inr (inr error)) c.in_err-configs.ensures.only)

pub returns-in_err-configs-clause-counted : goal.returns-in_err-configs-clause-counted
returns-in_err-configs-clause-counted g c =
    let old = g.S.Store.view c.args.files.now in
    let mid = g.S.Store.view c.read_named.new.files in
    let new = g.S.Store.view c.read_configurations.new.files in
    failure_has c.from_residual-in_err-configs.result c.in_err-configs.field-0.0 (λ e. CountsFault old new e)
    c.from_residual-in_err-configs.ensures.1
    (counted_on old mid new c.in_err-configs.field-0.0.error
    (reads-on old (g.S.Store.view c.read_target.new.files) mid c.in_ok-target.ensures.store
    c.in_ok-named.ensures.store) c.in_err-configs.ensures.counted)
