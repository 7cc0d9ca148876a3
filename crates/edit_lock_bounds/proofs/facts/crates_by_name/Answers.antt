use Rattle.std.proofs.Common.{◌∙◌, ap, arith, map}
use Rattle.std.specs.Str.{bytes_eq}
use Rattle.std.proofs.lemmas.Grind.{text_groups}
use Rattle.std.proofs.lemmas.List.{map-append}
use Rattle.edit_lock_bounds.specs.Choices.{Crate}
use Rattle.edit_lock_bounds.specs.Views.{crate_view}
use Rattle.edit_lock_bounds.proofs.GroupLemmas.{items-after, kept-all}
use Rattle.edit_lock_bounds.proofs.facts.crates_by_name.Goals as goal

pub crates-preserved : goal.crates-preserved
crates-preserved c = grind (arith, text_groups, map-append)

pub returns : goal.returns
returns c = λ name.
    items-after crate_view (λ x. x.now) c.crates.groups name
    ∙ ap (map crate_view) (c.crates.invariant name)
    ∙ kept-all crate_view (λ (k : Crate). bytes_eq name k.name) c.args.crates.now c.crates.versions-index
    c.crates-test.false
