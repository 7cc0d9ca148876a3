use Rattle.std.proofs.Common.{true, string_bytes}
use Rattle.std.proofs.lemmas.Map.Text.{btree_set_updates_text}
use Rattle.edit_lock_bounds.proofs.changes.add_text.Goals as goal

pub returns : goal.returns
returns c = λ q.
    btree_set_updates_text (string_bytes c.args.text) c.args.set.now c.insert.new.self true
    c.in_ok-insert.ensures.updates q
