use Rattle.std.proofs.Common.{Some, inl, inr, refl, ⊎_elim}
use Rattle.edit_sources.specs.Configured.{given}
use Rattle.edit_upgrade.proofs.AddressLemmas.{one_resolved}
use Rattle.edit_upgrade.proofs.PlannedLemmas.{failure-has}
use Rattle.edit_upgrade.proofs.addresses.Addresses.ensure_resolved.Goals as goal

pub returns-clause-are : goal.returns-clause-are
returns-clause-are c = λ configs are.
    let before = c.in_ok-definitions.ensures.defines configs are in
    one_resolved configs (given c.args.registry) c.in_ok-url.url c.args.self.now
    (record c.take_definitions.new.self { definitions = Some c.resolve.new.self }) c.store_url.new.self are
    c.take_definitions.ensures.configs (c.in_ok-url.ensures.defines configs before)
    c.take_definitions.ensures.default c.take_definitions.ensures.named
    c.store_url.ensures.configs c.store_url.ensures.definitions c.in_ok-store_url.ensures.preserved
    (c.in_ok-url.ensures.address configs before)

pub returns-in_err-url-clause-error : goal.returns-in_err-url-clause-error
returns-in_err-url-clause-error c =
    failure-has c.from_residual-in_err-url.result c.in_err-url.field-0.0 _ c.from_residual-in_err-url.ensures.1
    (⊎_elim (λ memory. inl memory)
    (λ none. inr (λ configs are. none configs (c.in_ok-definitions.ensures.defines configs are)))
    c.in_err-url.ensures.error)
