-- What the results of the parser and the tests on them mean for `upgrade_of`.
use Rattle.std.proofs.Common.{◌≡◌, ◌∷◌, [], List, ℕ, Ok, Option, Some, None, true, false, map, refl, ap, ◌∙◌, sym, inl, inr}
use Rattle.std.specs.Prelude.{find, option_copied}
use Rattle.std.specs.Borrow.{Bor}
use Rattle.std.proofs.lemmas.Bool.{cases_Bool}
use Rattle.std.specs.Cmp.Lexicographic.{pointwise}
use Rattle.std.specs.Prelude.{nat_eq, length, ◌==◌}
use Rattle.semver.specs.Identifiers.{comparator_view}
use Rattle.semver.specs.Parse.{Held, Parts, req_of}
use Rattle.semver.specs.declared.Comparator.{Comparator}
use Rattle.edit_version.specs.Requirement.{Nothing, Text, Unsupported, is_inequality, match_caret, upgrade_of, upgraded_comparator, requirement_text, unless_same}

-- what a comparator shows, where there is one
abbrev pub view_of : Option Comparator → Option Held
view_of None = None
view_of (Some c) = Some (comparator_view c)

pub find-view : (cs : List Comparator)
    → find (λ d. is_inequality d.0) (map comparator_view cs) ≡ view_of (find (λ c. is_inequality c.op) cs)
find-view [] = refl
find-view (c ∷ cs) = elim (cases_Bool (is_inequality c.op)) [
  | inl bad ↦ rw bad refl
  | inr fine ↦ rw fine (find-view cs)
]

-- a comparator that cannot be raised
raise_bad : (text : List ℕ) (v : Parts) (cs : List Comparator) (x : Comparator)
    → req_of text ≡ Ok (map comparator_view cs)
    → find (λ c. is_inequality c.op) cs ≡ Some x → upgrade_of text v ≡ Unsupported (comparator_view x)
raise_bad text v [] x h f = cc f
raise_bad text v (c ∷ cs) x h f = rw (h, find-view (c ∷ cs), f) refl

pub raise_unsupported : (text : List ℕ) (v : Parts) (cs ds : List Comparator) (x : Comparator)
    → req_of text ≡ Ok (map comparator_view cs)
    → ds ≡ cs → Some x ≡ find (λ c. is_inequality c.op) ds → upgrade_of text v ≡ Unsupported (comparator_view x)
raise_unsupported text v cs ds x h e f = raise_bad text v cs x h
    (sym (f ∙ ap (λ l. find (λ c. is_inequality c.op) l) e))

raise_fine : (text : List ℕ) (v : Parts) (cs : List Comparator) → req_of text ≡ Ok (map comparator_view cs)
    → (length cs == 0) ≡ false → find (λ c. is_inequality c.op) cs ≡ None
    → upgrade_of text v ≡ unless_same text
    (match_caret text (requirement_text (map (upgraded_comparator v) (map comparator_view cs))))
raise_fine text v [] h e f = cc e
raise_fine text v (c ∷ cs) h e f = rw (h, find-view (c ∷ cs), f) refl

-- each comparator can be raised
pub raise_text : (text : List ℕ) (v : Parts) (cs ds es : List Comparator) (out : List ℕ)
    → req_of text ≡ Ok (map comparator_view cs)
    → (length cs == 0) ≡ false → ds ≡ cs → None ≡ find (λ c. is_inequality c.op) ds
    → es ≡ cs → out ≡ requirement_text (map (upgraded_comparator v) (map comparator_view es))
    → upgrade_of text v ≡ unless_same text (match_caret text out)
raise_text text v cs ds es out h e d f g o =
    raise_fine text v cs h e (sym (f ∙ ap (λ l. find (λ c. is_inequality c.op) l) d))
    ∙ ap (λ l. unless_same text (match_caret text (requirement_text (map (upgraded_comparator v) (map comparator_view l)))))
    (sym g)
    ∙ ap (λ t. unless_same text (match_caret text t)) (sym o)

-- a reference that is not there
pub copied_none : (r : Option (Bor Comparator)) → ((x : Bor Comparator) → r ≡ Some x → ⊥)
    → option_copied r ≡ None
copied_none None h = refl
copied_none (Some x) h = absurd (h x refl)

pub same_nothing : (text new : List ℕ) → pointwise nat_eq new text ≡ true → unless_same text new ≡ Nothing
same_nothing text new h = rw h refl

pub other_text : (text new : List ℕ) → pointwise nat_eq new text ≡ false → unless_same text new ≡ Text new
other_text text new h = rw h refl
