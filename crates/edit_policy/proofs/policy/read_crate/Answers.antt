use Rattle.std.proofs.Common.{ap, codes, refl}
use Rattle.std.proofs.lemmas.Result.{err_from_is_err_and}
use Rattle.edit_document.specs.ItemViews.{document_of}
use Rattle.edit_tree.specs.DocumentViews.{tree_of}
use Rattle.edit_policy.specs.Faults.{InCrates, Only, crate_table}
use Rattle.edit_policy.specs.Policies.{member}
use Rattle.edit_policy.specs.PolicyTables.{place_in, tree_in}
use Rattle.edit_policy.specs.declared.keys.Expected.TheVariants as expected
use Rattle.edit_policy.specs.declared.keys.KeySet.TheVariants.{OfCrate}
use Rattle.edit_policy.proofs.CrateLemmas.{absent_crate, crate_at}
use Rattle.edit_policy.proofs.FaultLemmas.{crate_fault, fault_within, key_fault}
use Rattle.edit_policy.proofs.policy.read_crate.Goals as goal

pub returns-in_err-table-clause-error : goal.returns-in_err-table-clause-error
returns-in_err-table-clause-error c =
    let p = err_from_is_err_and c.from_residual.result c.from_residual.ensures.1 in
    let crates = c.args.crates.now in
    let name = c.args.name.now in
    rw (p.1, p.2)
    (fault_within (Only (member (place_in crates) name) expected.Table) (InCrates (place_in crates))
    (tree_in crates) _ (λ q x o. crate_table name o) c.in_err-table.ensures.error)

pub returns-in_err-check_keys-clause-error : goal.returns-in_err-check_keys-clause-error
returns-in_err-check_keys-clause-error c =
    let stop = c.from_residual-in_err-check_keys in
    let p = err_from_is_err_and stop.result stop.ensures.1 in
    let crates = c.args.crates.now in
    let table = c.in-Some.table in
    let found = rw c.in-Some.is at c.in_ok-table.ensures.found in
    rw (p.1, p.2)
    (crate_fault (tree_in table) (tree_in crates) (place_in crates) (place_in table) c.args.name.now _
    (ap tree_of found.document) found.at c.in_err-check_keys.ensures.error)

pub returns-in_err-hold-clause-error : goal.returns-in_err-hold-clause-error
returns-in_err-hold-clause-error c =
    let stop = c.from_residual-in_err-hold in
    let p = err_from_is_err_and stop.result stop.ensures.1 in
    let crates = c.args.crates.now in
    let table = c.in-Some.table in
    let found = rw c.in-Some.is at c.in_ok-table.ensures.found in
    rw (p.1, p.2)
    (crate_fault (tree_in table) (tree_in crates) (place_in crates) (place_in table) c.args.name.now _
    (ap tree_of found.document) found.at
    (key_fault OfCrate (tree_in table) (place_in table) (codes "hold") expected.Requirement _ refl
    c.in_err-hold.ensures.error))

pub returns-in_err-level-clause-error : goal.returns-in_err-level-clause-error
returns-in_err-level-clause-error c =
    let stop = c.from_residual-in_err-level in
    let p = err_from_is_err_and stop.result stop.ensures.1 in
    let crates = c.args.crates.now in
    let table = c.in-Some.table in
    let found = rw c.in-Some.is at c.in_ok-table.ensures.found in
    rw (p.1, p.2)
    (crate_fault (tree_in table) (tree_in crates) (place_in crates) (place_in table) c.args.name.now _
    (ap tree_of found.document) found.at
    (key_fault OfCrate (tree_in table) (place_in table) (codes "level") expected.Level _ refl
    c.in_err-level.ensures.error))

pub returns-in_err-reason-clause-error : goal.returns-in_err-reason-clause-error
returns-in_err-reason-clause-error c =
    let stop = c.from_residual-in_err-reason in
    let p = err_from_is_err_and stop.result stop.ensures.1 in
    let crates = c.args.crates.now in
    let table = c.in-Some.table in
    let found = rw c.in-Some.is at c.in_ok-table.ensures.found in
    rw (p.1, p.2)
    (crate_fault (tree_in table) (tree_in crates) (place_in crates) (place_in table) c.args.name.now _
    (ap tree_of found.document) found.at
    (key_fault OfCrate (tree_in table) (place_in table) (codes "reason") expected.Text _ refl
    c.in_err-reason.ensures.error))

pub returns-in_default-clause-ok : goal.returns-in_default-clause-ok
returns-in_default-clause-ok c =
    let crates = c.args.crates.now in
    let none = rw c.in_default.is at c.in_ok-table.ensures.found in
    let said = c.in_ok-unheld_crate.ensures in
    absent_crate (tree_in crates) (place_in crates) c.args.name.now _ none said.0 said.1 said.2 said.3

pub returns-clause-ok : goal.returns-clause-ok
returns-clause-ok c =
    let crates = c.args.crates.now in
    let found = rw c.in-Some.is at c.in_ok-table.ensures.found in
    crate_at (document_of crates.item) (place_in crates) c.args.name.now c.in-Some.table _ found
    c.check_keys.ensures.there c.in_ok-check_keys.ensures.ok c.in_ok-hold.ensures.ok c.in_ok-hold.ensures.text
    c.in_ok-level.ensures.ok c.in_ok-reason.ensures.ok c.in_ok-name.ensures.ok
