use Rattle.std.proofs.Common.{ap, sym, ◌∙◌}
use Rattle.edit_fetch.specs.Addressless.{is_empty_definition}
use Rattle.edit_fetch.proofs.AddresslessLemmas.{decides, passes}
use Rattle.edit_fetch.proofs.addressless.is_empty.Goals as goal

pub returns-in-Some : goal.returns-in-Some
returns-in-Some c =
    sym (ap is_empty_definition c.loop-config.invariant
    ∙ decides c.args.key.now c.args.configs.now c.loop-config.config-index c.config-item.result
    c.in-Some.empty
    c.loop-config-test.true c.config-item.is (sym c.in-Some.ensures))

pub loop-config-preserved : goal.loop-config-preserved
loop-config-preserved c =
    c.loop-config.invariant
    ∙ passes c.args.key.now c.args.configs.now c.loop-config.config-index c.config-item.result
    c.loop-config-test.true c.config-item.is (sym c.in_default.ensures)
