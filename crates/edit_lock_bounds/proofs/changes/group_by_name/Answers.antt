use Rattle.std.proofs.Common.{◌∙◌, ap, arith, map}
use Rattle.std.specs.Str.{bytes_eq}
use Rattle.std.proofs.lemmas.Grind.{text_groups}
use Rattle.std.proofs.lemmas.List.{map-append}
use Rattle.edit_lock_bounds.specs.LockPackages.{Package}
use Rattle.edit_lock_bounds.specs.Views.{package_view}
use Rattle.edit_lock_bounds.proofs.GroupLemmas.{items-after, kept-all}
use Rattle.edit_lock_bounds.proofs.changes.group_by_name.Goals as goal

pub packages-preserved : goal.packages-preserved
packages-preserved c = grind (arith, text_groups, map-append)

pub returns : goal.returns
returns c = λ name.
    items-after package_view (λ p. p.now) c.packages.groups name
    ∙ ap (map package_view) (c.packages.invariant name)
    ∙ kept-all package_view (λ (p : Package). bytes_eq name p.name) c.args.packages.now c.packages.locked-index
    c.packages-test.false
