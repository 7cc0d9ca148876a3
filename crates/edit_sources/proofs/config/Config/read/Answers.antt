use Rattle.std.proofs.Common.{◌≡◌, None, inl, inr, ⊎_elim}
use Rattle.std.specs.Prelude.{◌⊎◌}
use Rattle.std.proofs.lemmas.Result.{IfErr-weaker}
use Rattle.toml.specs.View.{table_view}
use Rattle.edit_base.specs.Errors.{IsMemory}
use Rattle.edit_sources.specs.Configuration.{IsMalformedConfig, configuration_of}
use Rattle.edit_sources.specs.Configuration.IsMalformedConfig.{misshapen}
use Rattle.edit_sources.specs.Configured.{IsConfigErrorAt}
use Rattle.edit_sources.proofs.config.Config.read.Goals as goal

pub returns-clause-error : goal.returns-clause-error
returns-clause-error c =
    IfErr-weaker c.config_of.result (λ e. IsMemory e
    ⊎ (IsConfigErrorAt c.args.path.now e × (configuration_of (table_view c.in_ok-table.table) ≡ None)))
    (λ e. IsMemory e ⊎ (IsConfigErrorAt c.args.path.now e × IsMalformedConfig c.args.bytes.now))
    (λ e. ⊎_elim (λ memory. inl memory)
    (λ why. inr (why.0, misshapen (table_view c.in_ok-table.table) c.in_ok-table.ensures.toml why.1)))
    c.config_of.ensures.error
