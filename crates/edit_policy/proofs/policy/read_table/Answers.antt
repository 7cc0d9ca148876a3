use Rattle.std.proofs.Common.{codes, refl}
use Rattle.std.proofs.lemmas.Result.{err_from_is_err_and}
use Rattle.edit_document.specs.ItemViews.{view_of}
use Rattle.edit_policy.specs.Faults.{AtKeys, InPolicy, InTexts, excluded, own_keys}
use Rattle.edit_policy.specs.Policies.{member}
use Rattle.edit_policy.specs.PolicyTables.{place_in, tree_in}
use Rattle.edit_policy.specs.declared.keys.Expected.TheVariants as expected
use Rattle.edit_policy.specs.declared.keys.KeySet.TheVariants.{OfPolicy}
use Rattle.edit_policy.proofs.FaultLemmas.{fault_within, own_fault}
use Rattle.edit_policy.proofs.PolicyLemmas.{present_policy}
use Rattle.edit_policy.proofs.policy.read_table.Goals as goal

pub returns-in_err-check_keys-clause-error : goal.returns-in_err-check_keys-clause-error
returns-in_err-check_keys-clause-error c =
    let p = err_from_is_err_and c.from_residual.result c.from_residual.ensures.1 in
    let table = c.args.table.now in
    rw (p.1, p.2)
    (fault_within (AtKeys OfPolicy (place_in table)) (InPolicy (place_in table)) (tree_in table) _
    (λ q x k. own_keys k) c.in_err-check_keys.ensures.error)

pub returns-in_err-compatible-clause-error : goal.returns-in_err-compatible-clause-error
returns-in_err-compatible-clause-error c =
    let stop = c.from_residual-in_err-compatible in
    let p = err_from_is_err_and stop.result stop.ensures.1 in
    let table = c.args.table.now in
    rw (p.1, p.2)
    (own_fault (tree_in table) (place_in table) (codes "compatible") expected.Status _ refl
    c.in_err-compatible.ensures.error)

pub returns-in_err-incompatible-clause-error : goal.returns-in_err-incompatible-clause-error
returns-in_err-incompatible-clause-error c =
    let stop = c.from_residual-in_err-incompatible in
    let p = err_from_is_err_and stop.result stop.ensures.1 in
    let table = c.args.table.now in
    rw (p.1, p.2)
    (own_fault (tree_in table) (place_in table) (codes "incompatible") expected.Status _ refl
    c.in_err-incompatible.ensures.error)

pub returns-in_err-pinned-clause-error : goal.returns-in_err-pinned-clause-error
returns-in_err-pinned-clause-error c =
    let stop = c.from_residual-in_err-pinned in
    let p = err_from_is_err_and stop.result stop.ensures.1 in
    let table = c.args.table.now in
    rw (p.1, p.2)
    (own_fault (tree_in table) (place_in table) (codes "pinned") expected.Status _ refl
    c.in_err-pinned.ensures.error)

pub returns-in_err-never_lower-clause-error : goal.returns-in_err-never_lower-clause-error
returns-in_err-never_lower-clause-error c =
    let stop = c.from_residual-in_err-never_lower in
    let p = err_from_is_err_and stop.result stop.ensures.1 in
    let table = c.args.table.now in
    rw (p.1, p.2)
    (own_fault (tree_in table) (place_in table) (codes "never-lower") expected.Truth _ refl
    c.in_err-never_lower.ensures.error)

pub returns-in_err-level-clause-error : goal.returns-in_err-level-clause-error
returns-in_err-level-clause-error c =
    let stop = c.from_residual-in_err-level in
    let p = err_from_is_err_and stop.result stop.ensures.1 in
    let table = c.args.table.now in
    rw (p.1, p.2)
    (own_fault (tree_in table) (place_in table) (codes "level") expected.Level _ refl
    c.in_err-level.ensures.error)

pub returns-in_err-min_age-clause-error : goal.returns-in_err-min_age-clause-error
returns-in_err-min_age-clause-error c =
    let stop = c.from_residual-in_err-min_age in
    let p = err_from_is_err_and stop.result stop.ensures.1 in
    let table = c.args.table.now in
    rw (p.1, p.2)
    (own_fault (tree_in table) (place_in table) (codes "min-age") expected.Days _ refl
    c.in_err-min_age.ensures.error)

pub returns-in_err-rust_version-clause-error : goal.returns-in_err-rust_version-clause-error
returns-in_err-rust_version-clause-error c =
    let stop = c.from_residual-in_err-rust_version in
    let p = err_from_is_err_and stop.result stop.ensures.1 in
    let table = c.args.table.now in
    rw (p.1, p.2)
    (own_fault (tree_in table) (place_in table) (codes "rust-version") expected.RustVersion _ refl
    c.in_err-rust_version.ensures.error)

pub returns-in_err-exclude-clause-error : goal.returns-in_err-exclude-clause-error
returns-in_err-exclude-clause-error c =
    let stop = c.from_residual-in_err-exclude in
    let p = err_from_is_err_and stop.result stop.ensures.1 in
    let table = c.args.table.now in
    rw (p.1, p.2)
    (fault_within (InTexts (member (place_in table) (codes "exclude"))) (InPolicy (place_in table))
    (tree_in table) _ (λ q x k. excluded k) c.in_err-exclude.ensures.error)

pub returns-clause-ok : goal.returns-clause-ok
returns-clause-ok c =
    let table = c.args.table.now in
    present_policy (tree_in table) (place_in table) (view_of table.item) _ c.check_keys.ensures.there
    c.in_ok-check_keys.ensures.ok c.in_ok-exclude.ensures.ok c.in_ok-compatible.ensures.ok
    c.in_ok-incompatible.ensures.ok c.in_ok-pinned.ensures.ok c.in_ok-never_lower.ensures.ok
    c.in_ok-level.ensures.ok c.in_ok-min_age.ensures.ok c.in_ok-rust_version.ensures.ok
    c.in_ok-crates.ensures.ok
