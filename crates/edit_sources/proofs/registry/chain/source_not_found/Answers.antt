use Rattle.std.proofs.Common.{inr, refl}
use Rattle.edit_sources.proofs.registry.chain.source_not_found.Goals as goal

pub returns-in-Ok : goal.returns-in-Ok
returns-in-Ok c = inr (c.in-Ok.key, refl, c.in-Ok.ensures.ok)
