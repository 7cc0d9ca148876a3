use Rattle.std.proofs.Common.{◌∷◌, ◌∙◌, [], List, ap, map, sym, take}
use Rattle.edit_lock_bounds.specs.LockPackages.{Package}
use Rattle.edit_lock_bounds.specs.Lookups.{Lookup, with_lookups}
use Rattle.edit_lock_bounds.specs.Views.{borrowed_package}
use Rattle.edit_lock_bounds.proofs.GroupLemmas.{mapped-more}
use Rattle.edit_lock_bounds.proofs.LookupLemmas.{with_lookups-append}
use Rattle.edit_lock_bounds.proofs.lookups.lookups_for.Goals as goal

pub packages-preserved : goal.packages-preserved
packages-preserved c =
    let i = c.packages.locked-index in
    let all = c.args.packages.now in
    let x = borrowed_package c.locked-item.result in
    record {
      seen = c.in_ok-add_lookup.ensures.kept c.packages.invariant.seen;
      made = c.in_ok-add_lookup.ensures.added c.packages.invariant.seen
          ∙ ap (λ (ls : List Lookup). with_lookups ls (x ∷ [])) c.packages.invariant.made
          ∙ sym (with_lookups-append [] (map borrowed_package (take i all)) (x ∷ []))
          ∙ ap (λ (ps : List Package). with_lookups [] ps)
          (sym (mapped-more borrowed_package all i c.locked-item.result c.packages-test.true c.locked-item.is));
    }
