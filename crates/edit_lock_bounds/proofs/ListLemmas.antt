-- Facts about lists and tests.
use Rattle.std.proofs.Common.{◌≡◌, ◌∷◌, [], ◌∙◌, List, Bool, Option, Some, None, true, false, not, ap, refl, sym, inl, inr}
use Rattle.std.specs.Prelude.{◌&&◌, ◌||◌, All, IfSome}
use Rattle.std.specs.List.{cons_option, filter, filter_map, list_any}
use Rattle.std.proofs.lemmas.Bool.{cases_Bool}
use Rattle.std.proofs.lemmas.List.Elements.{All-cons, All-head, All-nil, All-tail}

-- the first of two tests that both hold
pub both-first : (a b : Bool) → (a && b) ≡ true → a ≡ true
both-first true b h = refl
both-first false b h = h

-- the second of two tests that both hold
pub both-second : (a b : Bool) → (a && b) ≡ true → b ≡ true
both-second true b h = h
both-second false b h = cc h

-- a test fails whose negation holds
pub not-true : (a : Bool) → not a ≡ true → a ≡ false
not-true true h = cc h
not-true false h = refl

one-more : {Y : Type 0} (P : Y → Type 0) (o : Option Y) (ys : List Y) → IfSome o P → All P ys
    → All P (cons_option o ys)
one-more P None ys h g = g
one-more P (Some y) ys h g = All-cons P y ys h g

-- what holds of each value that a function gives holds of all that it gives
pub all-filter_map : {X Y : Type 0} (f : X → Option Y) (P : Y → Type 0) (xs : List X)
    → All (λ x. IfSome (f x) P) xs → All P (filter_map f xs)
all-filter_map f P [] h = All-nil P
all-filter_map f P (x ∷ xs) h =
    one-more P (f x) (filter_map f xs) (All-head (λ y. IfSome (f y) P) x xs h)
    (all-filter_map f P xs (All-tail (λ y. IfSome (f y) P) x xs h))

-- a test that implies another one finds the same among those that the other one keeps
pub any-kept : {X : Type 0} (keep test : X → Bool) → ((x : X) → test x ≡ true → keep x ≡ true) → (xs : List X)
    → list_any test (filter keep xs) ≡ list_any test xs
any-kept keep test more [] = refl
any-kept keep test more (x ∷ xs) = elim (cases_Bool (keep x)) [
  | inl stays ↦ rw stays (ap (λ b. test x || b) (any-kept keep test more xs))
  | inr drops ↦ elim (cases_Bool (test x)) [
    | inl holds ↦ cc (sym drops ∙ more x holds)
    | inr fails ↦ rw (drops, fails) (any-kept keep test more xs)
  ]
]
