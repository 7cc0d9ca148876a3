-- A walk over names with a lookup of each, after one more step.
use Rattle.std.proofs.Common.{◌≡◌, ◌∷◌, ◌++◌, [], List, ℕ, Option, Some, None, Bool, true, false, refl, ap, ◌∙◌, sym, subst, inl, inr, ◌⊎◌, ◌≤◌, arith}
use Rattle.std.specs.Prelude.{◌&&◌, if◌then◌else◌, Contains, IfSome, IsSome, Ok, Err, find, is_some, string_bytes}
use Rattle.std.specs.Option.{option_or}
use Rattle.std.specs.Str.{bytes_eq}
use Rattle.std.proofs.lemmas.Bool.{cases_Bool, cases_lt}
use Rattle.std.proofs.lemmas.List.Elements.{All-contains, All-contains_itself, All-head, Contains-append_right}
use Rattle.edit_base.specs.declared.errors.Error.{Error}
use Rattle.edit_sources.specs.Index.{Outcomes, SameOutcomes, answer_of, lookup_error}
use Rattle.edit_store.specs.Store.{IsRaisedCount}
use Rattle.url.specs.Parts as url
use Rattle.url.specs.Parts.{serialize}
use Rattle.edit_upgrade.specs.LookupSteps.{IsLookupMade, IsLookupError, IsWalkState, IsStep, Leaves, PairSet}
use Rattle.edit_upgrade.specs.Lookups.{AddsNeeded, Answer, AreLookups, IsIndexAnswer, CachedAnswers, answer_in, is_lookup_at, lookup_at}
use Rattle.edit_upgrade.specs.declared.upgrade.Look.{Look}
use Rattle.edit_upgrade.proofs.Bytes.{both-true, same-eq}
use Rattle.edit_upgrade.proofs.LookupSeriesLemmas.{at-pair, find-one, lookup_at-more, lookups-again, lookups-more, lookups-start}

pub gives-trans : (a b c : Outcomes) → SameOutcomes a b → SameOutcomes b c → SameOutcomes a c
gives-trans a b c h g address name outcome =
    let x = h address name outcome in
    let y = g address name outcome in
    (λ k. x.0 (y.0 k), λ k. y.1 (x.1 k))

-- ---- what a call leaves

-- a call that changes nothing
pub leaves-same : (Needed : List ℕ → List ℕ → Type 0) (gives : Outcomes) (count : ℕ) (old : CachedAnswers)
    → Leaves Needed gives gives count count old old
leaves-same Needed gives count old = record {
  adds = record {
    stays = λ a n some. refl;
    added = λ a n none. subst (λ (o : Option Answer). IfSome o
        (λ answer. Needed a n × IsIndexAnswer gives a n answer)) (sym none) tt;
  };
  same = λ a n o. (λ k. k, λ k. k);
  later = omega arith;
}

given-along : (first last : Outcomes) (a n : List ℕ) (answer : Answer) → SameOutcomes first last
    → IsIndexAnswer last a n answer → IsIndexAnswer first a n answer
given-along first last a n answer h g = record {
  registry = g.registry;
  at = g.at;
  given
      = (h g.registry n (Ok answer)).0 g.given;
}

added-along : (P Q : Answer → Type 0) (o : Option Answer) → ((x : Answer) → P x → Q x) → IfSome o P
    → IfSome o Q
added-along P Q None h p = tt
added-along P Q (Some x) h p = h x p

-- by whether the first call added an answer
added-by : (P : Answer → Type 0) (o now new : Option Answer) → now ≡ o → (IsSome now → new ≡ now)
    → IfSome now P → (now ≡ None → IfSome new P) → IfSome new P
added-by P None now new e stays first rest = rest e
added-by P (Some x) now new e stays first rest =
    subst (λ (y : Option Answer). IfSome y P) (sym (stays (subst (λ (y : Option Answer). IsSome y) (sym e)
    refl))) first

-- a call after another
pub leaves-more : (Needed More : List ℕ → List ℕ → Type 0) (first last next : Outcomes) (a b c : ℕ)
    (old now new : CachedAnswers)
    → ((at name : List ℕ) → More at name → Needed at name) → Leaves Needed first last a b old now
    → Leaves More last next b c now new
    → Leaves Needed first next a c old new
leaves-more Needed More first last next a b c old now new h l m = record {
  adds = record {
    stays = λ at name some.
        m.adds.stays at name (subst (λ (o : Option Answer). IsSome o) (sym (l.adds.stays at name some))
        some) ∙ l.adds.stays at name some;
    added = λ at name none.
        added-by (λ answer. Needed at name × IsIndexAnswer first at name answer) (now at name) (now at name)
        (new at name) refl (m.adds.stays at name)
        (l.adds.added at name none)
        (λ e. added-along (λ answer. More at name × IsIndexAnswer last at name answer)
        (λ answer. Needed at name × IsIndexAnswer first at name answer) (new at name)
        (λ answer k. (h at name k.0, given-along first last at name answer l.same k.1))
        (m.adds.added at name e));
  };
  same = gives-trans first last next l.same m.same;
  later = omega (arith, l.later, m.later);
}

-- what is needed by some is needed by more
pub adds-wider : (Needed More : List ℕ → List ℕ → Type 0) (gives : Outcomes) (old new : CachedAnswers)
    → ((at name : List ℕ) → More at name → Needed at name)
    → AddsNeeded More gives old new → AddsNeeded Needed gives old new
adds-wider Needed More gives old new h m = record {
  stays = m.stays;
  added = λ at name none.
      added-along (λ answer. More at name × IsIndexAnswer gives at name answer)
      (λ answer. Needed at name × IsIndexAnswer gives at name answer) (new at name)
      (λ answer k. (h at name k.0, k.1)) (m.added at name none);
}

-- the same of all that is left
pub leaves-wider : (Needed More : List ℕ → List ℕ → Type 0) (first last : Outcomes) (a b : ℕ)
    (old new : CachedAnswers)
    → ((at name : List ℕ) → More at name → Needed at name) → Leaves More first last a b old new
    → Leaves Needed first last a b old new
leaves-wider Needed More first last a b old new h m =
    record { adds = adds-wider Needed More first old new h m.adds; same = m.same; later = m.later }

-- ---- one step more

-- a name more, where it was among them
added-again : (b a : Bool) → (b ≡ true → a ≡ true) → (if b then true else a) ≡ a
added-again true a h = sym (h refl)
added-again false a h = refl

none-of : {A : Type 0} (o : Option A) → is_some o ≡ false → o ≡ None
none-of None h = refl
none-of (Some x) h = cc h

pub lookup-with : (address name : List ℕ) (first last : Outcomes) (now next : CachedAnswers) (lookup : Look)
    → SameOutcomes first last
    → IsLookupMade address name last now next lookup → IsLookupMade address name first now next lookup
lookup-with address name first last now next lookup h l = record {
  at = l.at;
  of_name = l.of_name;
  cached = l.cached;
  given = elim l.given [
    | inl was ↦ inl was
    | inr gave ↦ inr
        ((h lookup.registry name (Ok (answer_of (answer_in lookup)))).0 gave)
  ];
  others = l.others;
  stays = l.stays;
}

some-over : (o : Option Look) (lookup : Look) (b : Bool) → is_some
    (option_or o (if b then Some lookup else None)) ≡ (if b then true else is_some o)
some-over None lookup true = refl
some-over None lookup false = refl
some-over (Some x) lookup true = refl
some-over (Some x) lookup false = refl

-- which pairs are found with one more lookup
found-by : (address name : List ℕ) (made : List Look) (lookup : Look) → serialize lookup.registry ≡ address
    → string_bytes lookup.name ≡ name → (a n : List ℕ)
    → is_some (lookup_at (made ++ lookup ∷ []) a n) ≡ (if bytes_eq address a && bytes_eq name n then true else
    is_some (lookup_at made a n))
found-by address name made lookup p q a n =
    ap is_some (lookup_at-more made lookup a n
    ∙ ap (λ (o : Option Look). option_or (lookup_at made a n) o)
    (find-one a n lookup (bytes_eq address a && bytes_eq name n) (at-pair address name lookup p q a n)))
    ∙ some-over (lookup_at made a n) lookup (bytes_eq address a && bytes_eq name n)

-- a walk of which nothing was done
pub so-far-start : (Needed : List ℕ → List ℕ → Type 0) (first : Outcomes) (old : CachedAnswers) (made : List Look)
    (pairs : PairSet) → made ≡ []
    → ((a n : List ℕ) → Needed a n → ⊥) → ((a n : List ℕ) → pairs a n ≡ false)
    → IsWalkState Needed first old old made pairs
so-far-start Needed first old made pairs none nothing h =
    subst (λ (l : List Look). IsWalkState Needed first old old l pairs) (sym none)
    (record { lookups = lookups-start Needed first old nothing; set = h })

-- a pair for which the test succeeds is the pair
pair-is : (address name a n : List ℕ) (pairs : PairSet) → pairs address name ≡ true
    → (bytes_eq address a && bytes_eq name n) ≡ true → pairs a n ≡ true
pair-is address name a n pairs h e =
    let b = both-true (bytes_eq address a) (bytes_eq name n) e in
    ap (λ (x : List ℕ). pairs x n) (sym (same-eq address a b.0))
    ∙ ap (pairs address) (sym (same-eq name n b.1)) ∙ h

-- a step for a pair that is needed
pub so-far-step : (P Q : List ℕ → List ℕ → Type 0) (first last : Outcomes) (old now next : CachedAnswers)
    (made more : List Look) (pairs then_pairs : PairSet)
    (address name : List ℕ) → ((a n : List ℕ) → P a n → Q a n)
    → ((a n : List ℕ) → Q a n → P a n ⊎ ((a ≡ address) × (n ≡ name))) → Q address name
    → SameOutcomes first last → IsWalkState P first old now made pairs
    → IsStep address name last now next made more pairs then_pairs
    → IsWalkState Q first old next more then_pairs
so-far-step P Q first last old now next made more pairs then_pairs address name wider cases pair same s
    step = by step.done
  where
    by : ((pairs address name ≡ true) × (more ≡ made) × (next ≡ now))
        ⊎ ((lookup : Look) × (pairs address name ≡ false) × (more ≡ made ++ lookup ∷ [])
        × IsLookupMade address name last now next lookup)
        → IsWalkState Q first old next more then_pairs
    by (inl done) =
        let here : IsSome (lookup_at made address name) = sym (s.set address name) ∙ done.0 in
        let found : (a n : List ℕ) → Q a n → IsSome (lookup_at made a n) = λ a n h. elim (cases a n h) [
          | inl before ↦ s.lookups.complete a n before
          | inr it ↦ subst (λ (x : List ℕ). IsSome (lookup_at made x n)) (sym it.0)
              (subst (λ (x : List ℕ). IsSome (lookup_at made address x)) (sym it.1) here)
        ] in
        let set : (a n : List ℕ) → then_pairs a n ≡ is_some (lookup_at made a n) = λ a n.
        step.set a n ∙ added-again (bytes_eq address a && bytes_eq name n) (pairs a n)
        (pair-is address name a n pairs done.0) ∙ s.set a n in
        subst (λ (k : CachedAnswers). IsWalkState Q first old k more then_pairs) (sym done.2)
        (subst (λ (l : List Look). IsWalkState Q first old now l then_pairs) (sym done.1)
        (record { lookups = lookups-again P Q first old now made wider found s.lookups; set = set }))
    by (inr one) =
        let none = none-of (lookup_at made address name) (sym (s.set address name) ∙ one.1) in
        let lookup = lookup-with address name first last now next one.0 same one.3 in
        let set : (a n : List ℕ) → then_pairs a n ≡ is_some (lookup_at (made ++ one.0 ∷ []) a n) = λ a n.
        step.set a n ∙ ap (λ (b : Bool). if bytes_eq address a && bytes_eq name n then true else b)
        (s.set a n)
        ∙ sym (found-by address name made one.0 lookup.at lookup.of_name a n) in
        subst (λ (l : List Look). IsWalkState Q first old next l then_pairs) (sym one.2)
        (record {
          lookups = lookups-more P Q first old now next made one.0 address name wider cases pair none
              lookup s.lookups;
          set = set;
        })

-- a step of which nothing is needed
pub so-far-idle : (P Q : List ℕ → List ℕ → Type 0) (first : Outcomes) (old now next : CachedAnswers)
    (made more : List Look) (pairs then_pairs : PairSet)
    → ((a n : List ℕ) → P a n → Q a n) → ((a n : List ℕ) → Q a n → P a n) → more ≡ made → then_pairs
    ≡ pairs → next ≡ now
    → IsWalkState P first old now made pairs → IsWalkState Q first old next more then_pairs
so-far-idle P Q first old now next made more pairs then_pairs wider same a b c s =
    subst (λ (k : CachedAnswers). IsWalkState Q first old k more then_pairs) (sym c)
    (subst (λ (l : List Look). IsWalkState Q first old now l then_pairs) (sym a)
    (subst (λ (p : PairSet). IsWalkState Q first old now made p) (sym b)
    (record {
      lookups = lookups-again P Q first old now made wider
          (λ x n h. s.lookups.complete x n (same x n h)) s.lookups;
      set = s.set;
    })))

-- ---- the first lookup that fails

find-some : {A : Type 0} (p : A → Bool) (xs : List A) → IsSome (find p xs)
    → (x : A) × (find p xs ≡ Some x) × (p x ≡ true) × Contains xs x
find-some p [] h = cc h
find-some p (y ∷ ys) h = elim (cases_Bool (p y)) [
  | inl here ↦ (y, rw here refl, here, All-head (Contains (y ∷ ys)) y ys (All-contains_itself (y ∷ ys)))
  | inr other ↦
      let r = find-some p ys (rw other at h) in
      (r.0, rw other r.1, r.2, Contains-append_right (y ∷ []) ys r.0 r.3)
]

-- each pair that is needed has an answer
pub answered : (Needed : List ℕ → List ℕ → Type 0) (first : Outcomes) (old now : CachedAnswers) (made : List Look)
    (address n : List ℕ)
    → AreLookups Needed first old now made → Needed address n → (x : Look)
    × (lookup_at made address n ≡ Some x) × (now address n ≡ Some (answer_of (answer_in x)))
answered Needed first old now made address n m need =
    let f = find-some (is_lookup_at address n) made (m.complete address n need) in
    let b = both-true (bytes_eq (serialize f.0.registry) address) (bytes_eq (string_bytes f.0.name) n) f.2 in
    let cached = All-contains (λ lookup. now (serialize lookup.registry) (string_bytes lookup.name)
    ≡ Some (answer_of (answer_in lookup))) made f.0 m.as_cached f.3 in (
      f.0,
      f.1,
      ap (λ (a : List ℕ). now a n) (sym (same-eq (serialize f.0.registry) address b.0))
          ∙ ap (λ (q : List ℕ). now (serialize f.0.registry) q)
          (sym (same-eq (string_bytes f.0.name) n b.1)) ∙ cached,
    )

later : (a b c d : ℕ) → a ≤ b → IsRaisedCount b c → IsRaisedCount a c
later a b c d h (inl up) = inl (omega arith)
later a b c d h (inr end) = elim (cases_lt a c) [ inl up ↦ inl up | inr down ↦ inr (omega arith, end.1) ]

pub refused-with : (first last : Outcomes) (address : url.Parts) (name : List ℕ) (a b c : ℕ) (e : Error)
    → SameOutcomes first last → a ≤ b
    → IsLookupError last address name b c e → IsLookupError first address name a c e
refused-with first last address name a b c e h l (inr device) = inr (device.0, later a b c 0 l device.1)
refused-with first last address name a b c e h l (inl failure) = inl
    (failure.0, (h address name (Err (lookup_error e))).0 failure.1)
