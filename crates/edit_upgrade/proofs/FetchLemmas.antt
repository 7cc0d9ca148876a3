-- The effect of a lookup on a cache.
use Rattle.std.proofs.Common.{◌≡◌, ◌≢◌, List, ℕ, Option, Some, None, Result, Ok, Err, false, ap, sym, subst, inl, inr, ◌⊎◌, ◌∙◌, refl}
use Rattle.std.specs.Prelude.{◌&&◌, IfSome, IsSome, OnErr, OnOk, option_map}
use Rattle.std.proofs.lemmas.Bool.{cases_Bool}
use Rattle.std.specs.Str.{bytes_eq}
use Rattle.edit_base.specs.declared.errors.Error.{Error}
use Rattle.edit_sources.specs.Index.{Outcomes, answer_of}
use Rattle.edit_sources.specs.declared.index.IndexKrate.{IndexKrate}
use Rattle.url.specs.Parts as url
use Rattle.url.specs.Parts.{serialize}
use Rattle.edit_upgrade.specs.LookupSteps.{IsAt}
use Rattle.edit_upgrade.specs.Lookups.{AddsNeeded, Answer, IsIndexAnswer}
use Rattle.edit_upgrade.proofs.Bytes.{apart, both-true, same-eq}

-- the answers that a cache keeps, as it has them
abbrev pub Held : Type 0
Held = List ℕ → List ℕ → Option (Option IndexKrate)

-- the same, as a plan sees them
abbrev pub seen_in : Held → List ℕ → List ℕ → Option Answer
seen_in k a n = option_map answer_of (k a n)

pub seen-some : (o : Option (Option IndexKrate)) → IsSome (option_map answer_of o) → IsSome o
seen-some None h = h
seen-some (Some k) h = h

-- the other answers stay
pub others-of : (at name : List ℕ) (old new : Held)
    → ((a n : List ℕ) → (a ≢ at) ⊎ (n ≢ name) → new a n ≡ old a n)
    → (a n : List ℕ) → (bytes_eq at a && bytes_eq name n) ≡ false → seen_in new a n ≡ seen_in old a n
others-of at name old new h a n e = ap (option_map answer_of) (h a n (apart at a name n e))

-- a cached answer stays
pub stays-of : (at name : List ℕ) (old new : Held)
    → ((a n : List ℕ) → (a ≢ at) ⊎ (n ≢ name) → new a n ≡ old a n)
    → (IsSome (old at name) → (a n : List ℕ) → new a n ≡ old a n) → (a n : List ℕ)
    → IsSome (seen_in old a n) → seen_in new a n ≡ seen_in old a n
stays-of at name old new h first a n some = elim (cases_Bool (bytes_eq at a && bytes_eq name n)) [
  | inl same ↦
      let b = both-true (bytes_eq at a) (bytes_eq name n) same in
      let here : IsSome (old at name) = subst (λ (x : List ℕ). IsSome (old x name)) (sym (same-eq at a b.0))
      (subst (λ (x : List ℕ). IsSome (old a x)) (sym (same-eq name n b.1)) (seen-some (old a n) some)) in
      ap (option_map answer_of) (first here a n)
  | inr other ↦ others-of at name old new h a n other
]

-- ---- what a lookup adds

seen-none : (o : Option (Option IndexKrate)) → option_map answer_of o ≡ None → o ≡ None
seen-none None h = refl
seen-none (Some k) h = cc h

-- what is said of a new answer
abbrev Added : Outcomes → List ℕ → List ℕ → List ℕ → List ℕ → Option Answer → Type 0
Added gives at name a n o = IfSome o (λ answer. IsAt at name a n × IsIndexAnswer gives a n answer)

no-answer : (gives : Outcomes) (at name a n : List ℕ) (o : Option Answer) → o ≡ None
    → Added gives at name a n o
no-answer gives at name a n o e = subst (λ (x : Option Answer). Added gives at name a n x) (sym e) tt

-- an answer that the index gave
given-one : (gives : Outcomes) (address : url.Parts) (name : List ℕ) (o : Option (Option IndexKrate))
    → IfSome o (λ k. gives address name (Ok (answer_of k)))
    → Added gives (serialize address) name (serialize address) name (option_map answer_of o)
given-one gives address name None h = tt
given-one gives address name (Some k) h = ((refl, refl), record { registry = address; at = refl; given = h })

-- the answer at the pair of the lookup
added-here : {T : Type 0} (r : Result T Error) (gives : Outcomes) (address : url.Parts) (name : List ℕ)
    (old new : Option (Option IndexKrate)) → old ≡ None
    → OnOk r (IfSome new (λ k. gives address name (Ok (answer_of k)))) → OnErr r (new ≡ old)
    → Added gives (serialize address) name (serialize address) name (option_map answer_of new)
added-here (Ok x) gives address name old new none given same = given-one gives address name new given
added-here (Err e) gives address name old new none given same =
    no-answer gives (serialize address) name (serialize address) name (option_map answer_of new)
    (ap (option_map answer_of) (same ∙ none))

on-err-at : {T : Type 0} (r : Result T Error) (old new : Held) (a n : List ℕ)
    → OnErr r ((x y : List ℕ) → new x y ≡ old x y) → OnErr r (new a n ≡ old a n)
on-err-at (Ok x) old new a n h = tt
on-err-at (Err e) old new a n h = h a n

-- what a lookup adds, also one that fails
pub adds-of : {T : Type 0} (r : Result T Error) (gives : Outcomes) (address : url.Parts) (name : List ℕ)
    (old new : Held)
    → ((a n : List ℕ) → (a ≢ serialize address) ⊎ (n ≢ name) → new a n ≡ old a n)
    → (IsSome (old (serialize address) name) → (a n : List ℕ) → new a n ≡ old a n)
    → (old (serialize address) name ≡ None
    → OnOk r (IfSome (new (serialize address) name) (λ k. gives address name (Ok (answer_of k)))))
    → OnErr r ((a n : List ℕ) → new a n ≡ old a n)
    → AddsNeeded (IsAt (serialize address) name) gives (seen_in old) (seen_in new)
adds-of r gives address name old new h first given same = record {
  stays = stays-of (serialize address) name old new h first;
  added = λ a n none. elim (cases_Bool (bytes_eq (serialize address) a && bytes_eq name n)) [
    | inl here ↦
        let b = both-true (bytes_eq (serialize address) a) (bytes_eq name n) here in
        let at : serialize address ≡ a = same-eq (serialize address) a b.0 in
        let of : name ≡ n = same-eq name n b.1 in
        let was : old (serialize address) name ≡ None =
        subst (λ (x : List ℕ). old x name ≡ None) (sym at)
        (subst (λ (y : List ℕ). old a y ≡ None) (sym of) (seen-none (old a n) none)) in
        let there = added-here r gives address name (old (serialize address) name)
        (new (serialize address) name) was (given was)
        (on-err-at r old new (serialize address) name same) in
        subst (λ (x : List ℕ). Added gives (serialize address) name x n (seen_in new x n)) at
        (subst (λ (y : List ℕ). Added gives (serialize address) name (serialize address) y
        (seen_in new (serialize address) y)) of there)
    | inr other ↦
        no-answer gives (serialize address) name a n (seen_in new a n)
        (others-of (serialize address) name old new h a n other ∙ none)
  ];
}
