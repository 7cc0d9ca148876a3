use Rattle.std.proofs.Common.{◌≡◌, None, rules}
use Rattle.std.specs.BTreeMap.{get_by}
use Rattle.edit_unify.proofs.FirstLemmas.{crates_cmp, first_added}
use Rattle.edit_unify.proofs.apart.add_first.Goals as goal

pub returns-in_ok-insert : goal.returns-in_ok-insert
returns-in_ok-insert c = λ krate.
    let absent : get_by (crates_cmp c.crate_of-krate.result) c.args.firsts.now ≡ None = search rules in
    first_added krate c.args.stand.now c.args.firsts.now c.insert.new.self c.crate_of-krate.result
    c.crate_of-krate.ensures absent c.in_ok-insert.ensures.updates.0
