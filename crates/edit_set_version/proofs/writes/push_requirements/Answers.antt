use Rattle.std.proofs.Common.{◌≡◌, ◌∙◌, ◌++◌, ap, map, rules, subst, sym, take, append_assoc}
use Rattle.std.specs.Prelude.{option_to_list}
use Rattle.std.specs.List.{filter_map}
use Rattle.std.proofs.Math.Seq.{take-length}
use Rattle.edit_document.specs.Ranges.{edit_views}
use Rattle.edit_set_version.specs.Dependents.{HasRaisedText, dependent_of}
use Rattle.edit_set_version.specs.SetVersioned.{requirement_edit}
use Rattle.edit_set_version.proofs.ChoiceLemmas.{some_more}
use Rattle.edit_set_version.proofs.writes.push_requirements.Goals as goal

pub dependents-preserved : goal.dependents-preserved
dependents-preserved c = λ all.
    let fs = c.args.dependents.now in
    let i = c.dependents.dependent-index in
    let f = c.dependent-item.result in
    let was = edit_views c.args.edits.now.items in
    let old = filter_map requirement_edit (map dependent_of (take i fs)) in
    c.in_ok-push_requirement.ensures.ok (subst HasRaisedText (sym c.dependent-item.is)
    (all i f c.dependents-test.true))
    ∙ ap (λ es. es ++ option_to_list (requirement_edit (dependent_of f))) (c.dependents.invariant all)
    ∙ append_assoc was old (option_to_list (requirement_edit (dependent_of f)))
    ∙ ap (λ es. was ++ es) (sym (some_more requirement_edit dependent_of fs i f c.dependents-test.true
    c.dependent-item.is))

pub returns-clause-ok : goal.returns-clause-ok
returns-clause-ok c = λ risen.
    let all : take c.dependents.dependent-index c.args.dependents.now ≡ c.args.dependents.now
    = search (rules, take-length c.args.dependents.now) in
    c.dependents.invariant risen
    ∙ ap (λ fs. edit_views c.args.edits.now.items ++ filter_map requirement_edit (map dependent_of fs)) all
