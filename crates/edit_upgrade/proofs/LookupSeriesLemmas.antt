-- Properties of the lookups made one after another.
use Rattle.std.proofs.Common.{◌≡◌, ◌∷◌, ◌++◌, [], List, ℕ, Option, Some, None, Bool, true, false, refl, ap, ◌∙◌, sym, subst, inl, inr, ◌⊎◌}
use Rattle.std.specs.Prelude.{◌&&◌, if◌then◌else◌, All, IsSome, Ok, find, string_bytes}
use Rattle.std.specs.Option.{option_or}
use Rattle.std.specs.Str.{bytes_eq}
use Rattle.std.proofs.lemmas.Bool.{cases_Bool}
use Rattle.std.proofs.lemmas.List.Folds.{find-append}
use Rattle.std.proofs.lemmas.List.Elements.{All-cons, All-head, All-nil, All-push, All-tail, All-weaker}
use Rattle.edit_sources.specs.Index.{Outcomes, answer_of}
use Rattle.url.specs.Parts.{serialize}
use Rattle.edit_upgrade.specs.LookupSteps.{IsLookupMade}
use Rattle.edit_upgrade.specs.Lookups.{AreApart, AreLookups, CachedAnswers, answer_in, is_lookup_at, lookup_at}
use Rattle.edit_upgrade.specs.declared.upgrade.Look.{Look}
use Rattle.edit_upgrade.proofs.Bytes.{same-refl, same-swap}

-- ---- one more lookup

-- the earlier lookup of a pair, or the new one if it has that pair
pub find-one : (a n : List ℕ) (lookup : Look) (b : Bool) → is_lookup_at a n lookup ≡ b
    → find (is_lookup_at a n) (lookup ∷ []) ≡ (if b then Some lookup else None)
find-one a n lookup b e = rw e refl

pub lookup_at-more : (made : List Look) (lookup : Look) (a n : List ℕ)
    → lookup_at (made ++ lookup ∷ []) a n ≡ option_or (lookup_at made a n) (find (is_lookup_at a n) (lookup ∷ []))
lookup_at-more made lookup a n = find-append (is_lookup_at a n) made (lookup ∷ [])

-- whether a lookup has a pair, by its own address and name
pub at-pair : (address name : List ℕ) (lookup : Look) → serialize lookup.registry ≡ address
    → string_bytes lookup.name ≡ name
    → (a n : List ℕ) → is_lookup_at a n lookup ≡ (bytes_eq address a && bytes_eq name n)
at-pair address name lookup p q a n = rw (p, q) refl

or-some : (o p : Option Look) → IsSome o → IsSome (option_or o p)
or-some None p h = cc h
or-some (Some x) p h = refl

or-last : (o p : Option Look) → o ≡ None → option_or o p ≡ p
or-last None p h = refl
or-last (Some x) p h = cc h

or-none : (o p : Option Look) → option_or o p ≡ None → (o ≡ None) × (p ≡ None)
or-none None p h = (refl, h)
or-none (Some x) p h = cc h

-- a pair that was found is found
pub found-stays : (made : List Look) (lookup : Look) (a n : List ℕ) → IsSome (lookup_at made a n)
    → IsSome (lookup_at (made ++ lookup ∷ []) a n)
found-stays made lookup a n h =
    subst (λ (o : Option Look). IsSome o) (sym (lookup_at-more made lookup a n))
    (or-some (lookup_at made a n) (find (is_lookup_at a n) (lookup ∷ [])) h)

-- the pair of the new lookup is found
found-new : (made : List Look) (lookup : Look) (a n : List ℕ) → lookup_at made a n ≡ None
    → is_lookup_at a n lookup ≡ true
    → lookup_at (made ++ lookup ∷ []) a n ≡ Some lookup
found-new made lookup a n none here =
    lookup_at-more made lookup a n ∙ or-last (lookup_at made a n) (find (is_lookup_at a n) (lookup ∷ [])) none
    ∙ find-one a n lookup true here

-- a pair of no earlier lookup and not of the new one is not found
unfound : (made : List Look) (lookup : Look) (a n : List ℕ) → lookup_at made a n ≡ None
    → is_lookup_at a n lookup ≡ false
    → lookup_at (made ++ lookup ∷ []) a n ≡ None
unfound made lookup a n none here =
    lookup_at-more made lookup a n ∙ or-last (lookup_at made a n) (find (is_lookup_at a n) (lookup ∷ [])) none
    ∙ find-one a n lookup false here

some-not-none : (x : Look) → Some x ≡ None → ⊥
some-not-none x h = cc h

unfound-cases : (made : List Look) (lookup : Look) (a n : List ℕ) → lookup_at (made ++ lookup ∷ []) a n ≡ None
    → (lookup_at made a n ≡ None) × (is_lookup_at a n lookup ≡ false)
unfound-cases made lookup a n h =
    let b = or-none (lookup_at made a n) (find (is_lookup_at a n) (lookup ∷ []))
    (sym (lookup_at-more made lookup a n) ∙ h) in
    (b.0, not-here (cases_Bool (is_lookup_at a n lookup)) b.1)
  where
    not-here : (is_lookup_at a n lookup ≡ true) ⊎ (is_lookup_at a n lookup ≡ false)
        → find (is_lookup_at a n) (lookup ∷ []) ≡ None → is_lookup_at a n lookup ≡ false
    not-here (inl here) e = absurd (some-not-none lookup (sym (find-one a n lookup true here) ∙ e))
    not-here (inr other) e = other

-- where a pair is not found, no lookup has it
none-at : (a n : List ℕ) (made : List Look) → lookup_at made a n ≡ None
    → All (λ x. is_lookup_at a n x ≡ false) made
none-at a n [] h = All-nil (λ x. is_lookup_at a n x ≡ false)
none-at a n (x ∷ xs) h = elim (cases_Bool (is_lookup_at a n x)) [
  | inl here ↦ cc (rw here at h)
  | inr other ↦ All-cons (λ x. is_lookup_at a n x ≡ false) x xs other (none-at a n xs (rw other at h))
]

-- ---- the lookups that were made

abbrev registry_of : Look → List ℕ
registry_of lookup = serialize lookup.registry

abbrev name_in : Look → List ℕ
name_in lookup = string_bytes lookup.name

-- where nothing is needed, no lookup was made
pub lookups-start : (Needed : List ℕ → List ℕ → Type 0) (gives : Outcomes) (old : CachedAnswers)
    → ((a n : List ℕ) → Needed a n → ⊥) → AreLookups Needed gives old old []
lookups-start Needed gives old nothing = record {
  complete = λ a n h. absurd (nothing a n h);
  needed = All-nil (λ lookup. Needed (registry_of lookup) (name_in lookup));
  once = tt;
  as_cached = All-nil (λ x. old (registry_of x) (name_in x) ≡ Some (answer_of (answer_in x)));
  given = All-nil (λ x. (old (registry_of x) (name_in x) ≡ Some (answer_of (answer_in x)))
      ⊎ gives x.registry (name_in x) (Ok (answer_of (answer_in x))));
  others = λ a n h. refl;
}

-- where all that is newly needed was looked up before, the lookups stay
pub lookups-again : (P Q : List ℕ → List ℕ → Type 0) (gives : Outcomes) (old now : CachedAnswers) (made : List Look)
    → ((a n : List ℕ) → P a n → Q a n)
    → ((a n : List ℕ) → Q a n → IsSome (lookup_at made a n)) → AreLookups P gives old now made
    → AreLookups Q gives old now made
lookups-again P Q gives old now made wider found m = record {
  complete = found;
  needed = All-weaker (λ lookup. P (registry_of lookup) (name_in lookup))
      (λ lookup. Q (registry_of lookup) (name_in lookup))
      (λ lookup h. wider (registry_of lookup) (name_in lookup) h) made m.needed;
  once = m.once;
  as_cached = m.as_cached;
  given = m.given;
  others = m.others;
}

-- no earlier lookup has the pair of the new one
abbrev Far : List ℕ → List ℕ → Look → Type 0
Far address name x = (bytes_eq address (registry_of x) && bytes_eq name (name_in x)) ≡ false

far-from : (address name : List ℕ) (made : List Look) → lookup_at made address name ≡ None
    → All (Far address name) made
far-from address name made none =
    All-weaker (λ x. is_lookup_at address name x ≡ false) (Far address name)
    (λ x p. ap (λ (b : Bool). b && bytes_eq name (name_in x)) (same-swap address (registry_of x))
    ∙ ap (λ (b : Bool). bytes_eq (registry_of x) address && b) (same-swap name (name_in x)) ∙ p) made
    (none-at address name made none)

apart-more : (address name : List ℕ) (lookup : Look) → registry_of lookup ≡ address → name_in lookup ≡ name
    → (made : List Look)
    → All (Far address name) made → AreApart made → AreApart (made ++ lookup ∷ [])
apart-more address name lookup p q [] far h = (refl, tt)
apart-more address name lookup p q (x ∷ xs) far h = (
  unfound xs lookup (registry_of x) (name_in x) h.0
      (at-pair address name lookup p q (registry_of x) (name_in x) ∙ All-head (Far address name) x xs far),
  apart-more address name lookup p q xs (All-tail (Far address name) x xs far) h.1,
)

-- one more lookup, of a pair that is needed
pub lookups-more : (P Q : List ℕ → List ℕ → Type 0) (gives : Outcomes) (old now next : CachedAnswers)
    (made : List Look) (lookup : Look) (address name : List ℕ)
    → ((a n : List ℕ) → P a n → Q a n) → ((a n : List ℕ) → Q a n → P a n ⊎ ((a ≡ address) × (n ≡ name)))
    → Q address name
    → lookup_at made address name ≡ None → IsLookupMade address name gives now next lookup
    → AreLookups P gives old now made
    → AreLookups Q gives old next (made ++ lookup ∷ [])
lookups-more P Q gives old now next made lookup address name wider cases pair none l m =
    let far = far-from address name made none in
    let here : is_lookup_at address name lookup ≡ true =
    at-pair address name lookup l.at l.of_name address name ∙ rw (same-refl address, same-refl name) refl in
    let found : IsSome (lookup_at (made ++ lookup ∷ []) address name) =
    subst (λ (o : Option Look). IsSome o) (sym (found-new made lookup address name none here)) refl in
    record {
      complete = λ a n h. elim (cases a n h) [
        | inl before ↦ found-stays made lookup a n (m.complete a n before)
        | inr same ↦ subst (λ (x : List ℕ). IsSome (lookup_at (made ++ lookup ∷ []) x n)) (sym same.0)
            (subst (λ (x : List ℕ). IsSome (lookup_at (made ++ lookup ∷ []) address x)) (sym same.1) found)
      ];
      needed = All-push (λ x. Q (registry_of x) (name_in x)) made lookup
          (All-weaker (λ x. P (registry_of x) (name_in x)) (λ x. Q (registry_of x) (name_in x))
          (λ x h. wider (registry_of x) (name_in x) h) made m.needed)
          (subst (λ (a : List ℕ). Q a (name_in lookup)) (sym l.at)
          (subst (λ (n : List ℕ). Q address n) (sym l.of_name) pair));
      once = apart-more address name lookup l.at l.of_name made far m.once;
      as_cached = All-push (λ x. next (registry_of x) (name_in x) ≡ Some (answer_of (answer_in x)))
          made lookup (λ k d h. l.others _ _ (far k d h) ∙ m.as_cached k d h)
          (ap (λ (a : List ℕ). next a (name_in lookup)) l.at ∙ ap (λ (n : List ℕ). next address n) l.of_name
          ∙ l.cached);
      given = All-push (λ x. (old (registry_of x) (name_in x) ≡ Some (answer_of (answer_in x)))
          ⊎ gives x.registry (name_in x) (Ok (answer_of (answer_in x)))) made lookup m.given
          (elim l.given [
            | inl was ↦ inl (ap (λ (a : List ℕ). old a (name_in lookup)) l.at
                ∙ ap (λ (n : List ℕ). old address n) l.of_name ∙ sym (m.others address name none) ∙ was)
            | inr gave ↦ inr
                (subst (λ (n : List ℕ). gives lookup.registry n (Ok (answer_of (answer_in lookup))))
                (sym l.of_name) gave)
          ]);
      others = λ a n h.
          let b = unfound-cases made lookup a n h in
          l.others a n (sym (at-pair address name lookup l.at l.of_name a n) ∙ b.1) ∙ m.others a n b.0;
    }
