use Rattle.std.proofs.Common.{inr, refl}
use Rattle.edit_sources.proofs.config.config_file_error.Goals as goal

pub returns-in-Ok : goal.returns-in-Ok
returns-in-Ok c = inr (c.in-Ok.path, refl, c.in-Ok.ensures.ok)
