use Rattle.std.proofs.Common.{◌≡◌, ◌∙◌, Bool, true, false, not, ap, refl}
use Rattle.std.specs.Prelude.{string_bytes}
use Rattle.std.specs.BTreeSet.{contains_text}
use Rattle.std.proofs.lemmas.Map.Text.{btree_set_updates_text}
use Rattle.edit_upgrade.proofs.names.add_name.Goals as goal

pub returns-clause-ok : goal.returns-clause-ok
returns-clause-ok c = λ q.
    btree_set_updates_text c.args.name.now c.args.names.now c.insert.new.self true
    (rw (← c.in_ok-name.ensures.ok) c.in_ok-added.ensures.updates) q

not_not : (b : Bool) → not (not b) ≡ b
not_not true = refl
not_not false = refl

pub returns-clause-had : goal.returns-clause-had
returns-clause-had c =
    rw (← c.in_ok-name.ensures.ok)
    (ap not c.in_ok-added.ensures.added
    ∙ not_not (contains_text c.args.names.now (string_bytes c.in_ok-name.name)))
