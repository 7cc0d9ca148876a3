-- Steps of a walk over entries, one after another.
use Rattle.std.proofs.Common.{◌≡◌, ◌∷◌, ◌++◌, [], List, ℕ, Option, Some, Bool, true, false, refl, ap, ◌∙◌, sym, subst, inl, inr, ◌⊎◌, ◌<◌, arith}
use Rattle.std.specs.Prelude.{◌&&◌, if◌then◌else◌, IsSome}
use Rattle.std.specs.Str.{bytes_eq}
use Rattle.std.proofs.lemmas.Bool.{cases_Bool}
use Rattle.std.proofs.lemmas.List.Elements.{Contains-append_left, Contains-push, Contains-push_cases}
use Rattle.edit_sources.specs.Configured.{HasAddress}
use Rattle.edit_sources.specs.Index.{Outcomes, SameOutcomes, answer_of}
use Rattle.edit_sources.specs.declared.config.Config.{Config}
use Rattle.url.specs.Parts as url
use Rattle.url.specs.Parts.{serialize}
use Rattle.edit_upgrade.specs.Causes.{IsPassed}
use Rattle.edit_upgrade.specs.LookupSteps.{AreAllCached, AreSteps, IsEntryStep, IsWalkState, IsStep, PairSet, Stays, further, start}
use Rattle.edit_upgrade.specs.Lookups.{Answer, CachedAnswers, answer_in}
use Rattle.edit_upgrade.specs.Records.{RowEntry, Source, at_folder, at_registry, at_repository}
use Rattle.edit_upgrade.specs.Rows.{Needs, is_elsewhere}
use Rattle.edit_upgrade.specs.Upgraded.{IsNeededFor, IsNeededIn}
use Rattle.edit_upgrade.specs.declared.upgrade.Look.{Look}
use Rattle.edit_upgrade.proofs.Bytes.{both-true, same-eq}
use Rattle.edit_upgrade.proofs.FixedPoint.{not-both, one-address}
use Rattle.edit_upgrade.proofs.LookUpLemmas.{lookup-with, so-far-idle, so-far-step}

-- ---- what entries need

pub in-front : (configs : List Config) (front : List RowEntry) (e : RowEntry) (a n : List ℕ)
    → IsNeededIn configs front a n → IsNeededIn configs (front ++ e ∷ []) a n
in-front configs front e a n h = record {
  entry = h.entry;
  among = Contains-append_left front (e ∷ [])
      h.entry h.among;
  needs = h.needs;
}

pub in-last : (configs : List Config) (front : List RowEntry) (e : RowEntry) (a n : List ℕ)
    → IsNeededFor configs e a n → IsNeededIn configs (front ++ e ∷ []) a n
in-last configs front e a n h = record { entry = e; among = Contains-push front e; needs = h }

push-cases : (configs : List Config) (front : List RowEntry) (e : RowEntry) (a n : List ℕ)
    → IsNeededIn configs (front ++ e ∷ []) a n
    → IsNeededIn configs front a n ⊎ IsNeededFor configs e a n
push-cases configs front e a n h = elim (Contains-push_cases front e h.entry h.among) [
  | inl before ↦ inl (record { entry = h.entry; among = before; needs = h.needs })
  | inr last ↦ inr (subst (λ (x : RowEntry). IsNeededFor configs x a n) (sym last) h.needs)
]

-- no entry needs nothing
pub nothing-in : (configs : List Config) (a n : List ℕ) → IsNeededIn configs [] a n → ⊥
nothing-in configs a n h = none-below h.among.0 h.among.1
  where
    none-below : (k : ℕ) → k < 0 → ⊥
    none-below k h = omega arith

-- where the crate of an entry comes from
abbrev pub IsFrom : Source → Type 0
IsFrom source = ((named : Option (List ℕ)) × (source ≡ at_registry named)) ⊎ (is_elsewhere source ≡ true)

pub source-cases : (source : Source) → IsFrom source
source-cases (at_registry named) = inl (named, refl)
source-cases at_repository = inr refl
source-cases at_folder = inr refl

-- the one lookup that an entry of a registry needs
for-pair : (configs : List Config) (e : RowEntry) (named : Option (List ℕ)) (address : url.Parts)
    (a n : List ℕ) → e.source ≡ at_registry named
    → HasAddress configs named address → IsNeededFor configs e a n → (a ≡ serialize address) × (n ≡ e.name)
for-pair configs e named address a n q has h =
    let own : Needs configs e address e.name = record {
      named = named;
      source = q;
      has = has;
      crate_name
          = refl;
    } in (
      h.at ∙ ap serialize (one-address configs e h.registry address n e.name h.needs own),
      sym
          h.needs.crate_name,
    )

-- ---- the lookups that were made

-- an entry further
entry-so-far : (P Q : List ℕ → List ℕ → Type 0) (configs : List Config) (e : RowEntry) (first last : Outcomes)
    (old now next : CachedAnswers) (made more : List Look)
    (pairs then_pairs : PairSet) → ((a n : List ℕ) → P a n → Q a n)
    → ((a n : List ℕ) → Q a n → P a n ⊎ IsNeededFor configs e a n)
    → ((a n : List ℕ) → IsNeededFor configs e a n → Q a n) → SameOutcomes first last
    → IsWalkState P first old now made pairs
    → IsEntryStep configs e last now next made more pairs then_pairs
    → IsWalkState Q first old next more then_pairs
entry-so-far P Q configs e first last old now next made more pairs then_pairs wider cases mine same s step
    = by (source-cases e.source)
  where
    by : IsFrom e.source → IsWalkState Q first old next more then_pairs
    by (inl registry) =
        let l = step.lookups registry.0 registry.1 in
        so-far-step P Q first last old now next made more pairs then_pairs (serialize l.0) e.name wider
        (λ a n h. elim (cases a n h) [
          | inl before ↦ inl before
          | inr here ↦ inr (for-pair configs e registry.0 l.0 a n registry.1 l.1 here)
        ])
        (mine (serialize l.0) e.name
        (record {
          registry = l.0;
          needs = record {
            named = registry.0;
            source = registry.1;
            has = l.1;
            crate_name = refl;
          };
          at = refl;
        })) same s l.2
    by (inr other) =
        let i = step.idle other in
        so-far-idle P Q first old now next made more pairs then_pairs wider
        (λ a n h. elim (cases a n h) [
          | inl before ↦ before
          | inr here ↦ absurd (not-both e here.needs.named here.needs.source other)
        ]) i.0 i.1 i.2 s

-- what was needed, or is by one of the entries
abbrev pub Also : (List ℕ → List ℕ → Type 0) → List Config → List RowEntry → List ℕ → List ℕ → Type 0
Also P configs es a n = P a n ⊎ IsNeededIn configs es a n

-- a walk over entries further
pub steps-so-far : (P : List ℕ → List ℕ → Type 0) (configs : List Config) (first last : Outcomes)
    (old : CachedAnswers) → SameOutcomes first last
    → (es : List RowEntry) (now next : CachedAnswers) (made more : List Look) (pairs then_pairs : PairSet)
    → AreSteps configs last es now next made more pairs then_pairs → IsWalkState P first old now made pairs
    → IsWalkState (Also P configs es) first old next more then_pairs
steps-so-far P configs first last old same _ _ _ _ _ _ _ (start cached made pairs) s =
    so-far-idle P (Also P configs []) first old cached cached made made pairs pairs (λ a n h. inl h)
    (λ a n h. elim h [ inl before ↦ before | inr none ↦ absurd (nothing-in configs a n none) ]) refl refl
    refl s
steps-so-far P configs first last old same _ _ _ _ _ _ _
    (further front e now mid next made between more pairs then_pairs all_pairs steps step) s =
    entry-so-far (Also P configs front) (Also P configs (front ++ e ∷ [])) configs e first last old mid
    next between more then_pairs all_pairs
    (λ a n h. elim h [ inl before ↦ inl before | inr of ↦ inr (in-front configs front e a n of) ])
    (λ a n h. elim h [
      | inl before ↦ inl (inl before)
      | inr of ↦ elim (push-cases configs front e a n of)
          [ inl earlier ↦ inl (inr earlier) | inr here ↦ inr here ]
    ])
    (λ a n h. inr (in-last configs front e a n h)) same
    (steps-so-far P configs first last old same front now mid made between pairs then_pairs steps s) step

-- ---- the cached answers

some-cached : (o : Option Answer) (a : Answer) → o ≡ Some a → IsSome o
some-cached o a h = subst (λ (x : Option Answer). IsSome x) (sym h) refl

step-stays : (address name : List ℕ) (gives : Outcomes) (now next : CachedAnswers) (made more : List Look)
    (pairs then_pairs : PairSet)
    → IsStep address name gives now next made more pairs then_pairs → Stays now next
step-stays address name gives now next made more pairs then_pairs step = elim step.done [
  | inl done ↦ λ a n some. ap (λ (k : CachedAnswers). k a n) done.2
  | inr one ↦ one.3.stays
]

-- the answer of a step is cached
step-here : (address name : List ℕ) (gives : Outcomes) (now next : CachedAnswers) (made more : List Look)
    (pairs then_pairs : PairSet) → AreAllCached pairs now
    → IsStep address name gives now next made more pairs then_pairs → IsSome (next address name)
step-here address name gives now next made more pairs then_pairs cached step = elim step.done [
  | inl done ↦ subst (λ (k : CachedAnswers). IsSome (k address name)) (sym done.2) (cached address name done.0)
  | inr one ↦ some-cached (next address name) (answer_of (answer_in one.0)) one.3.cached
]

step-cached : (address name : List ℕ) (gives : Outcomes) (now next : CachedAnswers) (made more : List Look)
    (pairs then_pairs : PairSet) → AreAllCached pairs now
    → IsStep address name gives now next made more pairs then_pairs → AreAllCached then_pairs next
step-cached address name gives now next made more pairs then_pairs cached step a n h = by
    (cases_Bool (bytes_eq address a && bytes_eq name n))
  where
    by : ((bytes_eq address a && bytes_eq name n) ≡ true)
        ⊎ ((bytes_eq address a && bytes_eq name n) ≡ false) → IsSome (next a n)
    by (inl same) =
        let b = both-true (bytes_eq address a) (bytes_eq name n) same in
        subst (λ (x : List ℕ). IsSome (next x n)) (same-eq address a b.0)
        (subst (λ (x : List ℕ). IsSome (next address x)) (same-eq name n b.1)
        (step-here address name gives now next made more pairs then_pairs cached step))
    by (inr other) =
        let was : pairs a n ≡ true = sym (step.set a n ∙ ap (λ (b : Bool). if b then true else pairs a n)
        other) ∙ h in
        let some = cached a n was in
        subst (λ (o : Option Answer). IsSome o) (sym (step-stays address name gives now next made more
        pairs then_pairs step a n some)) some

-- after the step of an entry the answer that it needs is cached, and so are those of the set
pub entry-cached : (configs : List Config) (e : RowEntry) (gives : Outcomes) (now next : CachedAnswers)
    (made more : List Look) (pairs then_pairs : PairSet) → AreAllCached pairs now
    → IsEntryStep configs e gives now next made more pairs then_pairs → AreAllCached then_pairs next
    × IsPassed configs next e
entry-cached configs e gives now next made more pairs then_pairs cached step = by (source-cases e.source)
  where
    by : IsFrom e.source → AreAllCached then_pairs next × IsPassed configs next e
    by (inl registry) =
        let l = step.lookups registry.0 registry.1 in
        let here = step-here (serialize l.0) e.name gives now next made more pairs then_pairs cached l.2 in (
          step-cached (serialize l.0) e.name gives now next made more pairs then_pairs cached l.2,
          record {
            answered = λ address name needs.
                let p = for-pair configs e registry.0 l.0 (serialize address) name registry.1 l.1
                (record { registry = address; needs = needs; at = refl }) in
                subst (λ (x : List ℕ). IsSome (next x name)) (sym p.0)
                (subst (λ (x : List ℕ). IsSome (next (serialize l.0) x)) (sym p.1) here);
            has = λ named q. let m = step.lookups named q in (m.0, m.1);
          },
        )
    by (inr other) =
        let i = step.idle other in (
          subst (λ (k : CachedAnswers). AreAllCached then_pairs k) (sym i.2)
              (subst (λ (q : PairSet). AreAllCached q now) (sym i.1) cached),
          record {
            answered = λ address name needs. absurd (not-both e needs.named needs.source other);
            has = λ named q. absurd (not-both e named q other);
          },
        )

-- the same step, with the outcomes of the index
pub entry-step-with : (configs : List Config) (e : RowEntry) (first last : Outcomes) (now next : CachedAnswers)
    (made more : List Look) (pairs then_pairs : PairSet)
    → SameOutcomes first last → IsEntryStep configs e last now next made more pairs then_pairs
    → IsEntryStep configs e first now next made more pairs then_pairs
entry-step-with configs e first last now next made more pairs then_pairs same step = record {
  lookups = λ named q.
      let l = step.lookups named q in
      (l.0, l.1, step-with (serialize l.0) l.2);
  idle = step.idle;
}
  where
    step-with : (address : List ℕ) → IsStep address e.name last now next made more pairs then_pairs
        → IsStep address e.name first now next made more pairs then_pairs
    step-with address s = record {
      set = s.set;
      done = elim s.done [
        | inl done ↦ inl done
        | inr one ↦ inr (one.0, one.1, one.2, lookup-with address e.name first last now next one.0 same one.3)
      ];
    }
