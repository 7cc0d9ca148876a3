use Rattle.std.proofs.Common.{true}
use Rattle.std.proofs.lemmas.Map.Text.{btree_set_updates_text}
use Rattle.edit_unify.proofs.apart.add_name.Goals as goal

pub returns-in_ok-insert : goal.returns-in_ok-insert
returns-in_ok-insert c = record {
  ok = λ q.
      btree_set_updates_text c.args.name.now c.args.names.now c.insert.new.self true
      (rw (← c.in_ok-from_str.ensures.ok) c.in_ok-insert.ensures.updates) q;
}
