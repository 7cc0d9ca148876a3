use Rattle.std.proofs.Common.{◌∙◌, Bor, List, ℕ, ap, map}
use Rattle.std.specs.List.{filter_map}
use Rattle.std.proofs.lemmas.Result.{IfOk-weaker}
use Rattle.semver.specs.Identifiers.{parts_of}
use Rattle.edit_lock_bounds.specs.Choices.{Candidate, Wanted, candidate_of, met_requirements}
use Rattle.edit_lock_bounds.specs.Views.{known_in, package_view, texts_view, wanted_view}
use Rattle.edit_lock_bounds.specs.declared.candidates.ReadRequirement.{ReadRequirement}
use Rattle.edit_lock_bounds.proofs.candidates.candidates_at.Goals as goal

pub returns-clause-ok : goal.returns-clause-ok
returns-clause-ok c =
    let facts = c.args.facts.now in
    let p = package_view c.args.locked.now in
    let made : List Wanted → List ℕ → List Candidate
    = λ ws name. filter_map (candidate_of ws (known_in facts name).chosen) (texts_view c.args.texts.now) in
    let met = met_requirements (known_in facts p.name).requirements p.source (parts_of c.args.current.now) in
    IfOk-weaker c.candidates_among.result _ _
    (λ v e. e
    ∙ ap (λ (rs : List (Bor ReadRequirement)). made (map (λ r. wanted_view r.now) rs) c.as_str.result.now)
    c.deref.ensures.value
    ∙ ap (λ (ws : List Wanted). made ws c.as_str.result.now) c.in_ok-met.ensures
    ∙ ap (λ (name : List ℕ). made met name) c.as_str.ensures.value)
    c.candidates_among.ensures.ok
