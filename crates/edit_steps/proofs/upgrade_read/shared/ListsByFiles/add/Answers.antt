use Rattle.std.proofs.Common.{◌∙◌}
use Rattle.edit_steps.proofs.SharedLemmas.{adds_list}
use Rattle.edit_steps.proofs.upgrade_read.shared.ListsByFiles.add.Goals as goal

pub returns-clause-added : goal.returns-clause-added
returns-clause-added c =
    adds_list c.args.own c.args.self.now.shared _ c.len-next.result c.requires
    (c.len-next.ensures ∙ c.args.self.now.shared.lists.ok.0) c.in_ok-push.ensures.items
    c.in_ok-push-2.ensures.items
