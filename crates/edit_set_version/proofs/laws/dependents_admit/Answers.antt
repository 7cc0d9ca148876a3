use Rattle.edit_set_version.proofs.DependentLaw.{dependents_admit}
use Rattle.edit_set_version.proofs.laws.dependents_admit.Goals as goal

pub returns : goal.returns
returns c = dependents_admit
