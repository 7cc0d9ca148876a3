use Rattle.std.proofs.Common.{◌≡◌, ◌∙◌, Bool, true, false, not, cond, refl}
use Rattle.std.specs.Prelude.{string_bytes}
use Rattle.std.specs.BTreeSet.{contains_text}
use Rattle.std.proofs.lemmas.Map.Text.{btree_set_updates_text}
use Rattle.edit_set_version.proofs.names.add_name.Goals as goal

pub returns-clause-ok : goal.returns-clause-ok
returns-clause-ok c = λ q.
    btree_set_updates_text c.args.name.now c.args.names.now c.insert.new.self true
    (rw (← c.in_ok-name.ensures.ok) c.in_ok-added.ensures.updates) q

not-cond : (b : Bool) → not b ≡ cond b false true
not-cond true = refl
not-cond false = refl

pub returns-clause-new : goal.returns-clause-new
returns-clause-new c =
    rw (← c.in_ok-name.ensures.ok) (c.in_ok-added.ensures.added
    ∙ not-cond (contains_text c.args.names.now (string_bytes c.in_ok-name.name)))
