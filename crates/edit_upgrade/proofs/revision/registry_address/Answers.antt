use Rattle.std.proofs.Common.{◌∙◌, ap, sym, ⊎_elim}
use Rattle.std.specs.Prelude.{option_copied}
use Rattle.edit_base.specs.Errors.{IsMemory}
use Rattle.edit_sources.specs.Configured.{given}
use Rattle.edit_upgrade.proofs.OneAddress.{not_refused}
use Rattle.edit_upgrade.proofs.PlannedLemmas.{failure-has}
use Rattle.edit_upgrade.proofs.revision.registry_address.Goals as goal

-- a registry with an address is not refused
pub returns-in_err-ensure_resolved-clause-error : goal.returns-in_err-ensure_resolved-clause-error
returns-in_err-ensure_resolved-clause-error c =
    failure-has c.from_residual.result c.in_err-ensure_resolved.field-0.0 IsMemory c.from_residual.ensures.1
    (⊎_elim (λ memory. memory) (λ none. absurd (not_refused c.args.addresses.now.configs.now
    (given c.args.registry) c.requires.resolved.0 c.requires.resolved.1 c.in_err-ensure_resolved.field-0.0
    (none c.args.addresses.now.configs.now c.requires.addresses))) c.in_err-ensure_resolved.ensures.error)

pub returns-clause-address : goal.returns-clause-address
returns-clause-address c = record {
  address = c.in-Some.url.now;
  has = (c.in_ok-ensure_resolved.ensures.are c.args.addresses.now.configs.now c.requires.addresses).has
      (given c.args.registry) c.in-Some.url.now (sym c.url.ensures ∙ ap option_copied c.in-Some.is);
  is = c.in_ok-address.ensures.ok ∙ c.as_str.ensures.value;
}
