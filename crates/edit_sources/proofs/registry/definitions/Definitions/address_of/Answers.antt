use Rattle.std.proofs.Common.{ap, sym, ◌∙◌}
use Rattle.edit_sources.specs.Definitions.{end_at}
use Rattle.edit_sources.specs.Configured.{given}
use Rattle.edit_sources.proofs.DefinitionLemmas.{head_arrives}
use Rattle.edit_sources.proofs.registry.definitions.Definitions.address_of.Goals as goal

pub follow-requires : goal.follow-requires
follow-requires c = ap (end_at c.args.self.now) (sym c.head_key.ensures) ∙ sym c.in-None.ensures

pub returns-in-Some-clause-address : goal.returns-in-Some-clause-address
returns-in-Some-clause-address c = λ configs defines.
    head_arrives configs (given c.args.registry) c.in-Some.address.now c.args.self.now defines
    (ap (end_at c.args.self.now) (sym c.head_key.ensures) ∙ sym c.in-Some.ensures)
