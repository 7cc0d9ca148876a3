use Rattle.std.proofs.Common.{◌∙◌, ◌++◌, List, Option, ap, append-nil, inl, inr, option_map, refl, subst, sym}
use Rattle.std.specs.Prelude.{IfSome, option_to_list}
use Rattle.std.proofs.lemmas.List.{map_push}
use Rattle.std.proofs.lemmas.List.Elements.{All-push}
use Rattle.std.proofs.lemmas.Result.{err_from_is_err_and}
use Rattle.edit_version.specs.Laws.{IsVersion}
use Rattle.edit_set_version.specs.Crates.{bump_view, bumps_view}
use Rattle.edit_set_version.specs.Admitted.{AreVersions}
use Rattle.edit_set_version.specs.SetVersioned.{Bump}
use Rattle.edit_set_version.specs.declared.crates.Bump.{Bump as Bumping}
use Rattle.edit_set_version.proofs.bumps.push_bump.Goals as goal

pub returns-in_ok-push-in-Some-clause-versions : goal.returns-in_ok-push-in-Some-clause-versions
returns-in_ok-push-in-Some-clause-versions c = λ target current all.
    let b = c.in-Some.bump in
    let was = c.args.bumps.now.items in
    let is = subst (λ (o : Option Bumping). IfSome o (λ x. IsVersion (bump_view x).next)) c.in-Some.is
    (c.in_ok-bump.ensures.versions target current) in
    subst (λ (xs : List Bumping). AreVersions (bumps_view xs)) (sym c.in_ok-push-in-Some.ensures.items)
    (subst AreVersions (sym (map_push bump_view was b))
    (All-push (λ (x : Bump). IsVersion x.next) (bumps_view was) (bump_view b) all is))

pub returns-in_err-bump-clause-error : goal.returns-in_err-bump-clause-error
returns-in_err-bump-clause-error c =
    let r = err_from_is_err_and c.from_residual.result c.from_residual.ensures.1 in
    rw (r.1, r.2) (inr c.in_err-bump.ensures.error)

pub returns-in_err-push-in-Some-clause-error : goal.returns-in_err-push-in-Some-clause-error
returns-in_err-push-in-Some-clause-error c =
    let r = err_from_is_err_and c.from_residual-in_err-push-in-Some.result
    c.from_residual-in_err-push-in-Some.ensures.1 in
    rw (r.1, r.2) (inl refl)

pub returns-in_ok-push-in-Some-clause-ok : goal.returns-in_ok-push-in-Some-clause-ok
returns-in_ok-push-in-Some-clause-ok c =
    let was = c.args.bumps.now.items in
    ap bumps_view c.in_ok-push-in-Some.ensures.items ∙ map_push bump_view was c.in-Some.bump
    ∙ ap (λ o. bumps_view was ++ option_to_list o)
    (ap (option_map bump_view) (sym c.in-Some.is) ∙ c.in_ok-bump.ensures.ok)

pub returns-in_ok-push-in-Some-clause-bumpable : goal.returns-in_ok-push-in-Some-clause-bumpable
returns-in_ok-push-in-Some-clause-bumpable c = c.in_ok-bump.ensures.bumpable

pub returns-in-None-clause-ok : goal.returns-in-None-clause-ok
returns-in-None-clause-ok c =
    let was = bumps_view c.args.bumps.now.items in
    sym (append-nil was)
    ∙ ap (λ o. was ++ option_to_list o)
    (ap (option_map bump_view) (sym c.in-None.is) ∙ c.in_ok-bump.ensures.ok)

pub returns-in-None-clause-bumpable : goal.returns-in-None-clause-bumpable
returns-in-None-clause-bumpable c = c.in_ok-bump.ensures.bumpable

pub returns-in-None-clause-versions : goal.returns-in-None-clause-versions
returns-in-None-clause-versions c = λ target current all. all
