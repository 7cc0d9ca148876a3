use Rattle.std.proofs.Common.{ap, sym, ◌∙◌}
use Rattle.std.specs.Prelude.{None, Some}
use Rattle.edit_fetch.proofs.AddresslessLemmas.{answered-none, in-registries, in-sources}
use Rattle.edit_fetch.proofs.addressless.is_empty_in.Goals as goal

pub returns-in-Some : goal.returns-in-Some
returns-in-Some c =
    ap Some (answered-none c.in-Some.entry.now.1 c.is_none.result c.is_none.ensures)
    ∙ in-registries c.args.config.now c.args.key.now c.in-Some.entry.now (sym c.in-Some.ensures)

pub returns-in_err-entry : goal.returns-in_err-entry
returns-in_err-entry c =
    c.from_residual.ensures
    ∙ in-sources c.args.config.now c.args.key.now None (sym c.in_default.ensures) (sym c.in_err-entry.ensures)

pub returns : goal.returns
returns c =
    ap Some c.is_empty_source.ensures
    ∙ in-sources c.args.config.now c.args.key.now (Some c.in_ok-entry.entry.now) (sym c.in_default.ensures)
    (sym c.in_ok-entry.ensures)
