use Rattle.std.proofs.Common.{◌∷◌, ◌++◌, ◌∙◌, [], List, Option, ap, map, sym, take}
use Rattle.std.specs.List.{filter_map}
use Rattle.std.proofs.lemmas.List.Elements.{filter_map-append}
use Rattle.edit_lock_bounds.specs.Corrections.{Correction, correction_by}
use Rattle.edit_lock_bounds.specs.LockPackages.{Package}
use Rattle.edit_lock_bounds.specs.Views.{borrowed_package, known_in}
use Rattle.edit_lock_bounds.proofs.GroupLemmas.{mapped-more}
use Rattle.edit_lock_bounds.proofs.corrections.corrections_for.Goals as goal

pub packages-preserved : goal.packages-preserved
packages-preserved c =
    let i = c.packages.locked-index in
    let all = c.args.packages.now in
    let x = borrowed_package c.locked-item.result in
    let f : Package → Option Correction = λ p. correction_by (known_in c.args.facts.now p.name) p in
    c.in_ok-add_correction.ensures.ok
    ∙ ap (λ (cs : List Correction). cs ++ filter_map f (x ∷ [])) c.packages.invariant
    ∙ sym (filter_map-append f (map borrowed_package (take i all)) (x ∷ []))
    ∙ ap (λ (ps : List Package). filter_map f ps)
    (sym (mapped-more borrowed_package all i c.locked-item.result c.packages-test.true c.locked-item.is))
