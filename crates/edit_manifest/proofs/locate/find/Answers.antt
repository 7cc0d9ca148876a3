use Rattle.std.proofs.Common.{Bor, List, Option, ap, inl, inr, ⊎_elim, ℕ, ◌∙◌}
use Rattle.std.proofs.lemmas.Result.{IfErr-weaker, IfOk-weaker}
use Rattle.std.specs.Prelude.{option_map}
use Rattle.edit_manifest.proofs.SearchLemmas.{none_specified, none_unspecified, path_specified, path_unspecified, start_specified, start_unspecified}
use Rattle.edit_manifest.proofs.locate.find.Goals as goal

-- what is given of a text that is lent
abbrev given : Option (Bor (List ℕ)) → Option (List ℕ)
given o = option_map (λ s. s.now) o

pub returns-in_ok-path-in-Some-clause-found : goal.returns-in_ok-path-in-Some-clause-found
returns-in_ok-path-in-Some-clause-found g c =
    IfOk-weaker c.find_at.result _ _
    (λ p at t. path_specified _ _ _ c.as_str.result.now _ _ _ (ap given c.in-Some.is)
    (c.as_str.ensures.value ∙ c.in_ok-joined-in-Some.ensures.text) c.in_ok-path-in-Some.ensures.text (at t))
    c.find_at.ensures.found

pub returns-in_ok-path-in-Some-clause-error : goal.returns-in_ok-path-in-Some-clause-error
returns-in_ok-path-in-Some-clause-error g c =
    IfErr-weaker c.find_at.result _ _
    (λ e refused. ⊎_elim inl
    (λ unfound. inr (λ t. none_specified _ _ _ c.as_str.result.now _ _ _ (ap given c.in-Some.is)
    (c.as_str.ensures.value ∙ c.in_ok-joined-in-Some.ensures.text) c.in_ok-path-in-Some.ensures.text
    (unfound t)))
    refused)
    c.find_at.ensures.error

pub returns-in_ok-start-in-None-clause-found : goal.returns-in_ok-start-in-None-clause-found
returns-in_ok-start-in-None-clause-found g c =
    IfOk-weaker c.search.result _ _
    (λ p near t. path_unspecified _ _ c.as_str-in-None.result.now _ _ _ (ap given c.in-None.is)
    c.as_str-in-None.ensures.value c.in_ok-start-in-None.ensures.text (near t))
    c.search.ensures.found

pub returns-in_ok-start-in-None-clause-error : goal.returns-in_ok-start-in-None-clause-error
returns-in_ok-start-in-None-clause-error g c =
    IfErr-weaker c.search.result _ _
    (λ e refused. ⊎_elim inl
    (λ none. inr (λ t. none_unspecified _ _ c.as_str-in-None.result.now _ _ _ (ap given c.in-None.is)
    c.as_str-in-None.ensures.value c.in_ok-start-in-None.ensures.text (none t)))
    refused)
    c.search.ensures.error

pub returns-in_ok-path-in-Some-clause-only : goal.returns-in_ok-path-in-Some-clause-only
returns-in_ok-path-in-Some-clause-only g c =
    IfErr-weaker c.find_at.result _ _
    (λ e only. ⊎_elim inl
    (λ lacks. inr (start_specified _ _ c.as_str.result.now _ _ _ (ap given c.in-Some.is)
    (c.as_str.ensures.value ∙ c.in_ok-joined-in-Some.ensures.text) c.in_ok-path-in-Some.ensures.text lacks))
    only)
    c.find_at.ensures.only

pub returns-in_ok-start-in-None-clause-only : goal.returns-in_ok-start-in-None-clause-only
returns-in_ok-start-in-None-clause-only g c =
    IfErr-weaker c.search.result _ _
    (λ e only. ⊎_elim inl
    (λ named. inr (start_unspecified _ c.as_str-in-None.result.now _ _ _ (ap given c.in-None.is)
    c.as_str-in-None.ensures.value c.in_ok-start-in-None.ensures.text named))
    only)
    c.search.ensures.only
