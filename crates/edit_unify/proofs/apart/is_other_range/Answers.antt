use Rattle.std.proofs.Common.{◌∙◌, Bool, Option, ap, false, option_map}
use Rattle.std.specs.Prelude.{not}
use Rattle.std.specs.Option.{option_map_or}
use Rattle.edit_unify.specs.Firsts.{caret_for}
use Rattle.edit_unify.specs.Ranges.{Caret, is_same_range, numbers_of}
use Rattle.edit_unify.specs.Stands.{stand_view}
use Rattle.edit_unify.proofs.FirstLemmas.{other_range}
use Rattle.edit_unify.proofs.apart.is_other_range.Goals as goal

pub returns-in-Some : goal.returns-in-Some
returns-in-Some c =
    let own = stand_view c.args.own.now in
    let differs : Option Caret → Bool =
    λ first. option_map_or (λ caret. not (is_same_range caret own.caret)) first false in
    c.ne.ensures
    ∙ other_range c.range_of.result c.range_of-in-Some.result (numbers_of c.in-Some.first.now) own.caret
    c.range_of.ensures c.range_of-in-Some.ensures
    ∙ ap (λ o. differs (option_map numbers_of o)) c.in-Some.ensures.value
    ∙ ap (λ krate. differs (caret_for c.args.firsts.now krate)) c.crate_of.ensures
