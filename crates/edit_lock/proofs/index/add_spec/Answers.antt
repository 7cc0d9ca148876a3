use Rattle.std.proofs.Common.{true, string_bytes}
use Rattle.std.proofs.lemmas.Map.Text.{btree_set_updates_text}
use Rattle.edit_lock.proofs.index.add_spec.Goals as goal

pub returns : goal.returns
returns c = λ q.
    btree_set_updates_text (string_bytes c.args.spec) c.args.specs.now c.insert.new.self true
    c.in_ok-insert.ensures.updates q
