use Rattle.std.proofs.Common.{◌∙◌, List, ap, arith, map}
use Rattle.std.specs.Str.{bytes_eq}
use Rattle.std.proofs.lemmas.Grind.{text_groups}
use Rattle.std.proofs.lemmas.List.{map-append}
use Rattle.edit_lock_bounds.specs.Choices.{Chosen}
use Rattle.edit_lock_bounds.specs.Views.{chosen_view}
use Rattle.edit_lock_bounds.proofs.GroupLemmas.{kept-all, map-after}
use Rattle.edit_lock_bounds.proofs.facts.chosen_by_name.Goals as goal

pub chosen-preserved : goal.chosen-preserved
chosen-preserved c = grind (arith, text_groups, map-append)

pub returns : goal.returns
returns c = λ name.
    c.chosen.invariant name
    ∙ map-after (λ (x : Chosen). x.version) chosen_view _
    ∙ ap (λ (xs : List Chosen). map (λ x. x.version) xs)
    (kept-all chosen_view (λ (x : Chosen). bytes_eq name x.name) c.args.chosen.now c.chosen.version-index
    c.chosen-test.false)
