use Rattle.std.proofs.Common.{None}
use Rattle.std.proofs.lemmas.Map.Text.{btree_map_updates_text}
use Rattle.edit_shown.proofs.markdown.groups.push_first.Goals as goal

pub returns-in-Some-clause-removed : goal.returns-in-Some-clause-removed
returns-in-Some-clause-removed c =
    btree_map_updates_text c.args.cells.now c.args.groups.now c.remove.new.self None c.in-Some.ensures.updates
