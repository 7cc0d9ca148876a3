use Rattle.std.proofs.Common.{◌∙◌, ◌++◌, ◌∷◌, [], List, ap, codes, map, subst, sym, ℕ}
use Rattle.std.specs.Borrow.{Bor}
use Rattle.std.proofs.lemmas.Iterator.Consumers.{YieldsList-end, YieldsList-from_first}
use Rattle.std.specs.List.{AllZip}
use Rattle.std.proofs.lemmas.Result.{err_from_is_err_and}
use Rattle.edit_document.specs.ItemViews.{document_of, keys_left, view_of}
use Rattle.edit_document.specs.Items.{names_in}
use Rattle.edit_tree.specs.DocumentViews.{tree_of}
use Rattle.edit_policy.specs.Policies.{IsCratePolicy, member}
use Rattle.edit_policy.specs.PolicyTables.{item_at, place_in, tree_in}
use Rattle.edit_policy.specs.declared.policy.CratePolicy.{CratePolicy}
use Rattle.edit_policy.proofs.CrateLemmas.{crates_at}
use Rattle.edit_policy.proofs.FaultLemmas.{crates_fault}
use Rattle.edit_policy.proofs.ItemLemmas.{zip_texts_more}
use Rattle.edit_policy.proofs.PolicyLemmas.{no_crates}
use Rattle.edit_policy.proofs.policy.read_crates.Goals as goal

pub returns-in_err-one-clause-error : goal.returns-in_err-one-clause-error
returns-in_err-one-clause-error c =
    let stop = c.from_residual-in_err-one in
    let p = err_from_is_err_and stop.result stop.ensures.1 in
    let policy = c.args.policy.now in
    let table = c.in-Some.table in
    let found = rw c.in-Some.is at c.in_ok-table.ensures.found in
    rw (p.1, p.2)
    (crates_fault (tree_in table) (tree_in policy) (place_in policy) (place_in table) _
    (ap tree_of found.document) found.at c.in_err-one.ensures.error)

pub names-preserved : goal.names-preserved
names-preserved c =
    let table = c.in-Some.table in
    let is = IsCratePolicy (tree_in table) (place_in table) in
    subst (λ (cs : List CratePolicy).
    AllZip is (map (λ s. s.now) (c.names.yielded ++ c.in-Some-name.name ∷ [])) cs)
    (sym {A = List CratePolicy} c.in_ok-push.ensures.items)
    (zip_texts_more is c.names.yielded c.in-Some-name.name c.names.crates.items c.in_ok-one.one
    c.names.invariant c.in_ok-one.ensures.ok)

pub returns-in_default-clause-ok : goal.returns-in_default-clause-ok
returns-in_default-clause-ok c =
    let policy = c.args.policy.now in
    let none = rw c.in_default.is at c.in_ok-table.ensures.found in
    no_crates (tree_in policy) (member (place_in policy) (codes "crates")) (item_at policy (codes "crates")) _
    none c.new-crates.ensures.items

pub returns-clause-ok : goal.returns-clause-ok
returns-clause-ok c =
    let policy = c.args.policy.now in
    let found = rw c.in-Some.is at c.in_ok-table.ensures.found in
    let table = c.in-Some.table in
    let names = names_in (view_of table.item) in
    let cs = c.names.crates.items in
    let end = YieldsList-end
    (YieldsList-from_first (λ (s : Bor (List ℕ)). s.now) keys_left names
    (ap keys_left c.into_iter-name-iterator.ensures.into_iter_gives ∙ c.names-name-items.ensures))
    c.names.yielded c.names.name-iterator c.names.yielded_by c.next.result c.next.new.self c.in-None.is
    c.next.ensures.steps in
    crates_at (document_of policy.item) (member (place_in policy) (codes "crates")) table cs found
    (subst (λ (all : List (List ℕ)). AllZip (IsCratePolicy (tree_in table) (place_in table)) all cs) end.0
    c.names.invariant)
