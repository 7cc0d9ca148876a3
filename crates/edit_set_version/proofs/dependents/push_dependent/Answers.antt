use Rattle.std.proofs.Common.{◌∙◌, ◌++◌, ◌∷◌, [], ap, ap₂, sym, subst, append-nil, map, option_map, refl}
use Rattle.std.specs.Prelude.{All, option_to_list}
use Rattle.std.proofs.lemmas.List.{map_push}
use Rattle.std.proofs.lemmas.List.Elements.{All-push}
use Rattle.std.proofs.lemmas.Result.{err_from_is_err_and}
use Rattle.edit_base.specs.Errors.{IsMemory}
use Rattle.edit_metadata.specs.Inputs.{path_of}
use Rattle.edit_set_version.specs.Dependents.{HasRaisedText, numbered_dependent_view, lacks, stays}
use Rattle.edit_set_version.specs.Folders.{resolve_folder}
use Rattle.edit_set_version.specs.BumpsByFolder.{numbered_view, numbered_at}
use Rattle.edit_set_version.specs.PathDependency.{path_dependency_view}
use Rattle.edit_set_version.proofs.DependentLemmas.{led_numbered, numbered_by}
use Rattle.edit_set_version.proofs.dependents.push_dependent.Goals as goal

pub returns-in_err-dependent-in-Some-clause-error : goal.returns-in_err-dependent-in-Some-clause-error
returns-in_err-dependent-in-Some-clause-error c =
    let file = path_of c.args.input.now in
    let q = path_dependency_view c.args.entry in
    let n = numbered_view c.in-Some.bump in
    let numbered = c.in_ok-bump.ensures.ok
    ∙ ap₂ (λ file p. numbered_at c.args.numbers.now (resolve_folder file p)) c.as_str.ensures.value
    c.as_str-2.ensures.value in
    let p = err_from_is_err_and c.from_residual-in_err-dependent-in-Some.result
    c.from_residual-in_err-dependent-in-Some.ensures.1 in
    rw (p.1, p.2) (λ bs tells. stays (record { place = q.place; text = q.text; next = n.1 })
    (led_numbered bs file q ∙ ap (option_map (λ n. n.1)) (numbered_by bs c.args.numbers.now file q
    (option_map numbered_view c.in_ok-bump.bump) tells numbered
    ∙ ap (λ b. option_map (λ n. (n.0, record { place = q.place; text = q.text; next = n.1 }))
    (option_map numbered_view b)) c.in-Some.is)) c.in_err-dependent-in-Some.ensures.error)

pub returns-in-Some-clause-ok : goal.returns-in-Some-clause-ok
returns-in-Some-clause-ok c = λ bs tells.
    let file = path_of c.args.input.now in
    let q = path_dependency_view c.args.entry in
    let f = c.in_ok-dependent-in-Some.dependent in
    let was = c.args.dependents.now.items in
    let numbered = c.in_ok-bump.ensures.ok
    ∙ ap₂ (λ file p. numbered_at c.args.numbers.now (resolve_folder file p)) c.as_str.ensures.value
    c.as_str-2.ensures.value in
    let is = numbered_by bs c.args.numbers.now file q (option_map numbered_view c.in_ok-bump.bump) tells numbered
    ∙ ap (λ b. option_map (λ n. (n.0, record { place = q.place; text = q.text; next = n.1 }))
    (option_map numbered_view b)) c.in-Some.is in
    ap (map numbered_dependent_view) c.in_ok-push-in-Some.ensures.items ∙ map_push numbered_dependent_view was f
    ∙ ap (λ x. map numbered_dependent_view was ++ x ∷ [])
    (ap₂ (λ a b. (a, b)) (ap (λ z. z.0) c.in_ok-dependent-in-Some.ensures.bump)
    c.in_ok-dependent-in-Some.ensures.entry)
    ∙ ap (λ o. map numbered_dependent_view was ++ option_to_list o) (sym is)

pub returns-in-Some-clause-risen : goal.returns-in-Some-clause-risen
returns-in-Some-clause-risen c = λ all.
    subst (All HasRaisedText) (sym c.in_ok-push-in-Some.ensures.items)
    (All-push HasRaisedText c.args.dependents.now.items c.in_ok-dependent-in-Some.dependent all
    c.in_ok-dependent-in-Some.ensures.risen)

pub returns-clause-ok : goal.returns-clause-ok
returns-clause-ok c = λ bs tells.
    let file = path_of c.args.input.now in
    let q = path_dependency_view c.args.entry in
    let numbered = c.in_ok-bump.ensures.ok
    ∙ ap₂ (λ file p. numbered_at c.args.numbers.now (resolve_folder file p)) c.as_str.ensures.value
    c.as_str-2.ensures.value in
    let is = numbered_by bs c.args.numbers.now file q (option_map numbered_view c.in_ok-bump.bump) tells numbered
    ∙ ap (λ b. option_map (λ n. (n.0, record { place = q.place; text = q.text; next = n.1 }))
    (option_map numbered_view b)) c.in-None.is in
    sym (ap (λ o. map numbered_dependent_view c.args.dependents.now.items ++ option_to_list o) is
    ∙ append-nil (map numbered_dependent_view c.args.dependents.now.items))

pub returns-in_err-bump-clause-error : goal.returns-in_err-bump-clause-error
returns-in_err-bump-clause-error c =
    let r = err_from_is_err_and c.from_residual.result
    c.from_residual.ensures.1 in
    rw r.1 (λ bs tells. lacks (subst IsMemory (sym r.2.0) c.in_err-bump.ensures.error))

pub returns-in_err-push-in-Some-clause-error : goal.returns-in_err-push-in-Some-clause-error
returns-in_err-push-in-Some-clause-error c =
    let r = err_from_is_err_and c.from_residual-in_err-push-in-Some.result
    c.from_residual-in_err-push-in-Some.ensures.1 in
    rw r.1 (λ bs tells. lacks (subst IsMemory (sym r.2.0) refl))
