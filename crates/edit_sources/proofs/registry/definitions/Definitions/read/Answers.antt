use Rattle.edit_sources.proofs.KeyLemmas.{fresh_defines}
use Rattle.edit_sources.proofs.registry.definitions.Definitions.read.Goals as goal

pub returns-clause-defines : goal.returns-clause-defines
returns-clause-defines c =
    fresh_defines c.args.configs.now (record { left = c.in_ok-left.left; ends = c.new.result })
    c.new.ensures.empty c.in_ok-left.ensures
