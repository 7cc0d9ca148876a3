use Rattle.edit_steps.proofs.NamedLemmas.{paths_listed}
use Rattle.edit_steps.proofs.upgrade_read.named.list_paths.Goals as goal

pub returns : goal.returns
returns c = paths_listed c.in_ok-paths.paths.items c.args.own.items c.in_ok-last.last.items
    c.append.new.self.items c.append-2.new.self.items c.as_ref.result c.as_ref-2.result
    c.args.named.now.first c.args.named.now.last c.as_ref.ensures.value c.as_ref-2.ensures.value
    c.in_ok-paths.ensures c.in_ok-last.ensures c.in_ok-append.ensures.items c.in_ok-append-2.ensures.items
