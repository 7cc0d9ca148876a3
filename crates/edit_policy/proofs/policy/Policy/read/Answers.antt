use Rattle.std.proofs.lemmas.Result.{IfErr-weaker, IfOk-weaker, err_from_is_err_and}
use Rattle.edit_document.specs.Items.{place_view}
use Rattle.edit_tree.specs.DocumentViews.{tree_of}
use Rattle.edit_policy.specs.Faults.{InPolicy, Only, own_table}
use Rattle.edit_policy.specs.declared.keys.Expected.TheVariants.{Table}
use Rattle.edit_policy.proofs.FaultLemmas.{fault_within}
use Rattle.edit_policy.proofs.PolicyLemmas.{absent_policy, fault_at, policy_at}
use Rattle.edit_policy.proofs.policy.Policy.read.Goals as goal

pub returns-in_err-table-clause-error : goal.returns-in_err-table-clause-error
returns-in_err-table-clause-error c =
    let p = err_from_is_err_and c.from_residual.result c.from_residual.ensures.1 in
    let place = place_view c.args.place.now in
    rw (p.1, p.2)
    (fault_within (Only place Table) (InPolicy place) (tree_of c.args.document.now) _ (λ q x o. own_table o)
    c.in_err-table.ensures.error)

pub returns-in_default-clause-policy : goal.returns-in_default-clause-policy
returns-in_default-clause-policy c =
    let none = rw c.in_default.is at c.in_ok-table.ensures.found in
    absent_policy (tree_of c.args.document.now) (place_view c.args.place.now) c.empty.result none
    c.empty.ensures

pub returns-clause-policy : goal.returns-clause-policy
returns-clause-policy c =
    let found = rw c.in-Some.is at c.in_ok-table.ensures.found in
    IfOk-weaker c.read_table.result _ _
    (λ p h. policy_at c.args.document.now (place_view c.args.place.now) c.in-Some.table p found h)
    c.read_table.ensures.ok

pub returns-clause-error : goal.returns-clause-error
returns-clause-error c =
    let found = rw c.in-Some.is at c.in_ok-table.ensures.found in
    IfErr-weaker c.read_table.result _ _
    (λ e h. fault_at c.args.document.now (place_view c.args.place.now) c.in-Some.table e found h)
    c.read_table.ensures.error
