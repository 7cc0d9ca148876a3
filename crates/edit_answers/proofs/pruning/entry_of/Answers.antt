use Rattle.edit_answers.proofs.PruneLemmas.{no-etag-file}
use Rattle.edit_answers.proofs.pruning.entry_of.Goals as goal

pub returns-in-None : goal.returns-in-None
returns-in-None c = no-etag-file c.args.path.now c.in-None.ensures.cases
