use Rattle.std.proofs.Common.{◌≡◌, ◌∙◌, ℕ, List, map, not, ap}
use Rattle.std.specs.BTreeMap.{get_by_text}
use Rattle.std.specs.BTreeSet.{contains_text}
use Rattle.std.specs.List.{filter}
use Rattle.edit_lock.specs.LockFile.{spec_of}
use Rattle.edit_lock.specs.AdaptedCalls.{locks}
use Rattle.edit_lock.specs.Views.{changes_view, locked_package_view, lock_view, pair_of, new_package_pairs}
use Rattle.edit_lock.specs.declared.lock.LockedPackage.{LockedPackage}
use Rattle.edit_lock.proofs.IndexLemmas.{gained-at, same-changes}
use Rattle.edit_lock.proofs.index.Index.new.Goals as goal

pub returns : goal.returns
returns c =
    let before = lock_view c.args.before.now in
    let now = lock_view c.args.now.now in
    let index = changes_view (record
    { had = c.in_ok-had.had; has = c.in_ok-has.has; gained = c.in_ok-gained-2.gained }) in
    let had : (q : List ℕ) → contains_text c.in_ok-had.had q ≡ locks before q
    = λ q. c.in_ok-had.ensures q
    ∙ ap (λ (xs : List LockedPackage). locks (map locked_package_view xs) q) c.deref.ensures.value in
    let has : (q : List ℕ) → contains_text c.in_ok-has.has q ≡ locks now q
    = λ q. c.in_ok-has.ensures q
    ∙ ap (λ (xs : List LockedPackage). locks (map locked_package_view xs) q) c.deref-2.ensures.value in
    let new : new_package_pairs c.in_ok-gained.gained.items
    ≡ map pair_of (filter (λ p. not (contains_text c.in_ok-had.had (spec_of p))) now)
    = c.in_ok-gained.ensures ∙ ap (λ (xs : List LockedPackage).
    map pair_of (filter (λ p. not (contains_text c.in_ok-had.had (spec_of p))) (map locked_package_view xs)))
    c.deref-3.ensures.value in
    same-changes before now index.had index.has index.gained had has
    (gained-at before now index.had had c.in_ok-gained.gained.items (get_by_text c.in_ok-gained-2.gained) new
    c.in_ok-gained-2.ensures)
