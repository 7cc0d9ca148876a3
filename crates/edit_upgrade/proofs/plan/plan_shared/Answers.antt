use Rattle.std.proofs.Common.{◌∙◌}
use Rattle.edit_upgrade.proofs.ConfigListLemmas.{chosen-length}
use Rattle.edit_upgrade.proofs.plan.plan_shared.Goals as goal

pub plan_all-requires-clause-configurations : goal.plan_all-requires-clause-configurations
plan_all-requires-clause-configurations g c =
    chosen-length c.args.lists.now c.args.which.now c.requires.lists ∙ c.requires.configurations
