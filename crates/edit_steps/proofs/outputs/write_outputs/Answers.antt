-- Discarding staged writes writes nothing.
use Rattle.edit_steps.proofs.ApplyLemmas.{stopped_still}
use Rattle.edit_steps.proofs.outputs.write_outputs.Goals as goal

pub returns-in-Err-clause-stopped : goal.returns-in-Err-clause-stopped
returns-in-Err-clause-stopped g c =
    stopped_still c.args.outputs.now _ _ _ c.unstage.ensures.writes c.unstage.ensures.files
    c.in-Err.ensures.stopped
