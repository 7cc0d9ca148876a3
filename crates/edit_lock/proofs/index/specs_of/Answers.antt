use Rattle.std.proofs.Common.{◌∙◌, List, true, cond, ap, sym, map, take}
use Rattle.std.specs.BTreeSet.{contains_text}
use Rattle.std.specs.Str.{bytes_eq}
use Rattle.edit_lock.specs.LockFile.{Package, spec_of}
use Rattle.edit_lock.specs.AdaptedCalls.{locks}
use Rattle.edit_lock.specs.Views.{locked_package_view}
use Rattle.edit_lock.proofs.IndexLemmas.{locks-more}
use Rattle.edit_lock.proofs.ListLemmas.{mapped-more}
use Rattle.edit_lock.proofs.index.specs_of.Goals as goal

pub packages-preserved : goal.packages-preserved
packages-preserved c = λ q.
    let i = c.packages.package-index in
    let all = c.args.packages.now in
    let seen = map locked_package_view (take i all) in
    let p = locked_package_view c.package-item.result in
    c.in_ok-add_spec.ensures q
    ∙ ap (λ s. cond (bytes_eq s q) true (contains_text c.packages.specs q)) c.in_ok-spec.ensures
    ∙ ap (cond (bytes_eq (spec_of p) q) true) (c.packages.invariant q)
    ∙ sym (locks-more seen p q)
    ∙ ap (λ (ps : List Package). locks ps q)
    (sym (mapped-more locked_package_view all i c.package-item.result c.packages-test.true c.package-item.is))
