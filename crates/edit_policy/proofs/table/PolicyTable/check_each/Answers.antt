use Rattle.std.proofs.Common.{◌≡◌, false}
use Rattle.edit_policy.specs.Policies.{is_stray}
use Rattle.edit_policy.specs.PolicyTables.{place_in, tree_in}
use Rattle.edit_policy.proofs.ItemLemmas.{all_texts_more}
use Rattle.edit_policy.proofs.table.PolicyTable.check_each.Goals as goal

pub names-preserved : goal.names-preserved
names-preserved c =
    let table = c.args.self.now in
    all_texts_more (λ name. is_stray c.args.keys (tree_in table) (place_in table) name ≡ false) c.names.yielded
    c.in-Some.name c.names.invariant c.in_ok-check_key.ensures.ok
