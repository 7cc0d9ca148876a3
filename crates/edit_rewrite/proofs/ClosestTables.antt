-- The innermost inline table around a place, found by a loop over the places above it.
use Rattle.std.proofs.Common.{◌≡◌, ℕ, zero, suc, ◌+◌, ◌<◌, ◌≤◌, List, [], ◌∷◌, length, take, Option, None, Some, sym, subst, ap, ◌∙◌, arith, ltb}
use Rattle.std.specs.Prelude.{MatchOption}
use Rattle.std.proofs.lemmas.Bool.{ltb-true, ltb-false}
use Rattle.std.proofs.lemmas.List.{take-map, length-map}
use Rattle.edit_syntax.proofs.Cases.{by_test}
use Rattle.edit_syntax.specs.Grammar.{Text}
use Rattle.edit_tree.specs.declared.place.Step.{Step as WrittenStep}
use Rattle.edit_rewrite.specs.declared.path_matching.PathMatch.TheVariants.{On}
use Rattle.edit_tree.specs.Assertions.{Place}
use Rattle.edit_rewrite.specs.Entries.{path_match_on, path_match}
use Rattle.edit_rewrite.specs.Inner.{NoneAbove, IsClosest}
use Rattle.edit_document.specs.Items.{step_view, place_view}
use Rattle.edit_document.specs.Ranges.{HasTable, StartsTable}
use Rattle.edit_tree.proofs.SamePlace.{same_step_self}

-- none is written at the places from so many steps up to so many
abbrev pub NoneFrom : Text → List WrittenStep → ℕ → ℕ → Type 0
NoneFrom form place from end = (n : ℕ) → from ≤ n → n < end → HasTable form (place_view (take n place)) None

pub none_more : (form : Text) (place : List WrittenStep) (from end : ℕ) → NoneFrom form place from end
    → HasTable form (place_view (take end place)) None → NoneFrom form place from (end + 1)
none_more form place from end before here n le lt =
    by_test (ltb n end) (λ h. before n le (ltb-true n end h))
    (λ h. let same : end ≡ n = omega (arith, ltb-false n end h) in
    subst (λ (m : ℕ). HasTable form (place_view (take m place)) None) same here)

pub none_yet : (form : Text) (place : List WrittenStep) (end : ℕ) → NoneFrom form place (suc end) (end + 1)
none_yet form place end n le lt = absurd (omega arith)

above_all : (form : Text) (place : List WrittenStep) (from end : ℕ) → length place ≤ end
    → NoneFrom form place from end → NoneAbove form (place_view place) from
above_all form place from end whole none n le lt =
    subst (λ (p : Place). HasTable form p None) (sym (take-map step_view n place))
    (none n le (omega (arith, length-map place step_view)))

-- where the loop ends
pub closest_is : (form : Text) (place : List WrittenStep) (end : ℕ) (found : Option (ℕ × ℕ))
    → length place ≤ end
    → end ≤ length place → MatchOption found (NoneFrom form place 0 end)
    (λ p. (p.0 < end) × StartsTable form (place_view (take p.0 place)) p.1
    × NoneFrom form place (suc p.0) end)
    → IsClosest form (place_view place) found
closest_is form place end None whole within h = above_all form place 0 end whole h
closest_is form place end (Some p) whole within h = (
  omega (arith, h.0, length-map place step_view),
  subst (λ (q : Place). StartsTable form q p.1) (sym (take-map step_view p.0 place)) h.1,
  above_all form place (suc p.0) end whole h.2,
)

way_taken : (done : ℕ) (place : Place) (k : ℕ) → k ≤ length place
    → path_match_on done place (take k place) ≡ On (done + k)
way_taken done [] zero le = let same : done ≡ done + 0 = omega arith in ap (λ (n : ℕ). On n) same
way_taken done [] (suc k) le = absurd (omega arith)
way_taken done (s ∷ ss) zero le = let same : done ≡ done + 0 = omega arith in ap (λ (n : ℕ). On n) same
way_taken done (s ∷ ss) (suc k) le =
    rw (same_step_self s) (way_taken (done + 1) ss k (omega arith) ∙ ap (λ (n : ℕ). On n) (more done k))
  where
    more : (d n : ℕ) → (d + 1) + n ≡ d + suc n
    more d n = omega arith

-- a place above another one is on the way to it
pub way_above : (place : Place) (k : ℕ) → k < length place → On k ≡ path_match place (take k place)
way_above place k lt = sym (way_taken 0 place k (omega arith) ∙ ap (λ (n : ℕ). On n) (zero_more k))
  where
    zero_more : (n : ℕ) → 0 + n ≡ n
    zero_more n = omega arith
