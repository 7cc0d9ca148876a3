-- Floors, over the comparators of `semver` and over their views.
use Rattle.std.proofs.Common.{◌≡◌, ◌∷◌, [], List, ℕ, Bool, Ok, Option, Some, map, refl, ap, ◌∙◌, sym, inl, inr}
use Rattle.std.specs.Prelude.{◌||◌, find, option_map}
use Rattle.std.specs.List.{list_any}
use Rattle.std.proofs.lemmas.Bool.{cases_Bool}
use Rattle.semver.specs.Identifiers.{comparator_view}
use Rattle.semver.specs.Parse.{Held, Parts, req_of}
use Rattle.semver.specs.declared.Comparator.{Comparator}
use Rattle.edit_version.specs.Floors.{begins_after, comparator_version, floor_in, floor_of, is_below, names_floor, one_begins_after, read_begins_after}
use Rattle.edit_version.specs.Requirement.{requirement_read}

-- whether comparators begin after a version
pub after-views : (v : Parts) (cs : List Comparator)
    → list_any (λ (c : Comparator). begins_after v (comparator_view c)) cs
    ≡ one_begins_after (map comparator_view cs) v
after-views v [] = refl
after-views v (c ∷ cs) = ap (λ b. begins_after v (comparator_view c) || b) (after-views v cs)

-- whether a version is below the floor of what was read
pub below-read : (text : List ℕ) (cs : List Comparator) (v : Parts) (b : Bool)
    → req_of text ≡ Ok (map comparator_view cs)
    → b ≡ list_any (λ (c : Comparator). begins_after v (comparator_view c)) cs → b ≡ is_below text (Some v)
below-read text cs v b h e = e ∙ after-views v cs ∙ ap (λ r. read_begins_after r v) (sym h)

-- the first comparator whose view passes a test
found-views : (p : Held → Bool) (cs : List Comparator)
    → option_map comparator_view (find (λ (c : Comparator). p (comparator_view c)) cs)
    ≡ find p (map comparator_view cs)
found-views p [] = refl
found-views p (c ∷ cs) = elim (cases_Bool (p (comparator_view c))) [
  | inl holds ↦ rw holds refl
  | inr fails ↦ rw fails (found-views p cs)
]

-- the floor of what was read
pub floor-read : (text : List ℕ) (cs : List Comparator) (o : Option Comparator)
    → Some (map comparator_view cs) ≡ requirement_read text
    → o ≡ find (λ (c : Comparator). names_floor (map comparator_view cs) (comparator_view c)) cs
    → option_map comparator_version (option_map comparator_view o) ≡ floor_of text
floor-read text cs o h e =
    ap (λ (x : Option Comparator). option_map comparator_version (option_map comparator_view x)) e
    ∙ ap (λ (x : Option Held). option_map comparator_version x)
    (found-views (names_floor (map comparator_view cs)) cs)
    ∙ floor-text
  where
    floor-text : floor_in (map comparator_view cs) ≡ floor_of text
    floor-text = rw (← h) refl
