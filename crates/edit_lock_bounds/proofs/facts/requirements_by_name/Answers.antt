use Rattle.std.proofs.Common.{◌∙◌, List, ap, arith, map}
use Rattle.std.specs.Str.{bytes_eq}
use Rattle.std.proofs.lemmas.Grind.{text_groups}
use Rattle.std.proofs.lemmas.List.{map-append}
use Rattle.edit_lock_bounds.specs.Choices.{Requirement, wanted_of}
use Rattle.edit_lock_bounds.specs.Views.{requirement_view}
use Rattle.edit_lock_bounds.proofs.GroupLemmas.{kept-all, map-after}
use Rattle.edit_lock_bounds.proofs.facts.requirements_by_name.Goals as goal

pub requirements-preserved : goal.requirements-preserved
requirements-preserved c = grind (arith, text_groups, map-append)

pub returns-clause-ok : goal.returns-clause-ok
returns-clause-ok c = λ name.
    c.requirements.invariant name
    ∙ map-after wanted_of requirement_view _
    ∙ ap (λ (xs : List Requirement). map wanted_of xs)
    (kept-all requirement_view (λ (x : Requirement). bytes_eq name x.name) c.args.requirements.now
    c.requirements.requirement-index c.requirements-test.false)
