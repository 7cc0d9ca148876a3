-- The laws of `specs/Laws.antt` for the results of a call that upgrades a requirement.
use Rattle.std.proofs.Common.{◌≡◌, List, ℕ, Ok, Err, Option, Some, None, false, refl, inr}
use Rattle.std.specs.Prelude.{IfOk, IfSome, Result, String, string_bytes}
use Rattle.std.specs.declared.alloc.Global.{Global}
use Rattle.semver.specs.Parse.{Parts, req_of}
use Rattle.edit_base.specs.declared.errors.Error.{Error}
use Rattle.edit_version.specs.Laws.{Admits, AdmitsNoLower, CanReach, KeepsForm, IsNarrower, IsRelease, IsSettled, IsVersion, holds_plus, text_after}
use Rattle.edit_version.specs.RequirementErrors.{IsAnswer}
use Rattle.edit_version.specs.Requirement.{upgrade_of}
use Rattle.edit_version.proofs.FixedTexts.{raised-read}
use Rattle.edit_version.proofs.NoPlus.{raised-no_plus}
use Rattle.edit_version.proofs.Outcomes.{IsOutcome, form-of, narrower-of, no_lower-of, reach-of, read-nothing, release-no_dash, settled-of}

outcome : (text : List ℕ) (v : Parts) (o : Option (String Global)) → IsAnswer (upgrade_of text v) text (Ok o)
    → IsOutcome text v (text_after o text)
outcome text v None h = read-nothing text v (req_of text) refl h
outcome text v (Some s) h = inr (raised-read text v (string_bytes s) h)

pub settled : (text : List ℕ) (v : Parts) (r : Result (Option (String Global)) Error)
    → IsAnswer (upgrade_of text v) text r → IsVersion v
    → IfOk r (λ o. IsSettled (text_after o text) v)
settled text v (Ok o) h w = settled-of text v (text_after o text) w (outcome text v o h)
settled text v (Err e) h w = tt

pub reach : (text : List ℕ) (v : Parts) (r : Result (Option (String Global)) Error)
    → IsAnswer (upgrade_of text v) text r → IsVersion v
    → IfOk r (λ o. CanReach text v → Admits (text_after o text) v)
reach text v (Ok o) h w = reach-of text v (text_after o text) w (outcome text v o h)
reach text v (Err e) h w = tt

pub narrower : (text : List ℕ) (v : Parts) (r : Result (Option (String Global)) Error)
    → IsAnswer (upgrade_of text v) text r → IsVersion v
    → IfOk r (λ o. Admits text v → IsNarrower text (text_after o text) v)
narrower text v (Ok o) h w = narrower-of text v (text_after o text) w (outcome text v o h)
narrower text v (Err e) h w = tt

pub form : (text : List ℕ) (v : Parts) (r : Result (Option (String Global)) Error)
    → IsAnswer (upgrade_of text v) text r → IsVersion v
    → IfOk r (λ o. KeepsForm text (text_after o text) v)
form text v (Ok o) h w = form-of text v (text_after o text) w (outcome text v o h)
form text v (Err e) h w = tt

pub no_lower : (text : List ℕ) (v : Parts) (r : Result (Option (String Global)) Error)
    → IsAnswer (upgrade_of text v) text r → IsVersion v
    → IfOk r (λ o. AdmitsNoLower text (text_after o text) v)
no_lower text v (Ok o) h w = no_lower-of text v (text_after o text) w (outcome text v o h)
no_lower text v (Err e) h w = tt

pub release : (text : List ℕ) (v : Parts) (r : Result (Option (String Global)) Error)
    → IsAnswer (upgrade_of text v) text r → IsVersion v
    → IfOk r (λ o. IsRelease (text_after o text) v)
release text v (Ok o) h w = release-no_dash text v (text_after o text) w (outcome text v o h)
release text v (Err e) h w = tt

pub no_plus : (text : List ℕ) (v : Parts) (r : Result (Option (String Global)) Error)
    → IsAnswer (upgrade_of text v) text r → IsVersion v
    → IfOk r (λ o. IfSome o (λ s. holds_plus (string_bytes s) ≡ false))
no_plus text v (Ok None) h w = tt
no_plus text v (Ok (Some s)) h w = raised-no_plus text v (string_bytes s) w h
no_plus text v (Err e) h w = tt
