use Rattle.edit_restricted_index.proofs.HoldLemmas.{others_stay}
use Rattle.edit_restricted_index.proofs.holds_by_name.take_policies.Goals as goal

pub returns-in-Some-clause-others : goal.returns-in-Some-clause-others
returns-in-Some-clause-others c =
    others_stay c.args.name.now c.args.holds.now c.remove.new.self c.in-Some.ensures.updates
