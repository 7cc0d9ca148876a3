use Rattle.std.proofs.Common.{inl, inr, ⊎_elim}
use Rattle.std.specs.Prelude.{◌⊎◌}
use Rattle.std.proofs.lemmas.Result.{err_from_is_err_and}
use Rattle.toml.specs.View.{table_view}
use Rattle.edit_base.specs.Errors.{IsMemory}
use Rattle.edit_sources.specs.Configuration.{IsMalformedConfig}
use Rattle.edit_sources.specs.Configuration.IsMalformedConfig.{misshapen}
use Rattle.edit_sources.specs.Configured.{IsConfigErrorAt}
use Rattle.edit_sources.specs.Includes.{HasBadInclude}
use Rattle.edit_sources.proofs.config.includes.config_and_includes.Goals as goal

pub returns-in_err-table-clause-error : goal.returns-in_err-table-clause-error
returns-in_err-table-clause-error c =
    let why : IsMemory c.in_err-table.field-0.0 ⊎ (IsConfigErrorAt c.args.path.now c.in_err-table.field-0.0
    × (IsMalformedConfig c.args.bytes.now ⊎ HasBadInclude c.args.path.now c.args.bytes.now)) =
    ⊎_elim (λ memory. inl memory) (λ bad. inr (bad.0, inl bad.1)) c.in_err-table.ensures.error in
    let stop = c.from_residual in
    let e = err_from_is_err_and stop.result stop.ensures.1 in
    rw (e.1, e.2) why

pub returns-in_err-config-clause-error : goal.returns-in_err-config-clause-error
returns-in_err-config-clause-error c =
    let why : IsMemory c.in_err-config.field-0.0 ⊎ (IsConfigErrorAt c.args.path.now c.in_err-config.field-0.0
    × (IsMalformedConfig c.args.bytes.now ⊎ HasBadInclude c.args.path.now c.args.bytes.now)) =
    ⊎_elim (λ memory. inl memory)
    (λ bad. inr (bad.0, inl (misshapen (table_view c.in_ok-table.table) c.in_ok-table.ensures.toml bad.1)))
    c.in_err-config.ensures.error in
    let stop = c.from_residual-in_err-config in
    let e = err_from_is_err_and stop.result stop.ensures.1 in
    rw (e.1, e.2) why
