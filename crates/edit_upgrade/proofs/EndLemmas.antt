-- Lists with one element appended, and filters of them.
use Rattle.std.proofs.Common.{◌≡◌, ◌∷◌, ◌++◌, [], List, ℕ, Some, Bool, true, false, zero, suc, refl, ap, ◌∙◌, sym, subst, inl, inr, ◌⊎◌, ◌<◌, arith, get_or, length, append-nil, take, drop, Option, None}
use Rattle.std.specs.Prelude.{All, IfSome, IsSome, filter, slice_get}
use Rattle.std.specs.List.{flat_map}
use Rattle.std.proofs.lemmas.List.{take-append-drop}
use Rattle.std.proofs.lemmas.List.Concat.{flat_map-cons}
use Rattle.std.proofs.lemmas.List.Elements.{All-append, All-head, All-nil, All-tail, All-push, filter-append}
use Rattle.std.proofs.lemmas.Option.{slice_get-get_or}
use Rattle.edit_upgrade.specs.Inputs.{below}

same-some : {A : Type 0} (x y : A) → Some x ≡ Some y → x ≡ y
same-some x y h = cc h

-- ---- one element

-- an element of the first part of a list is one of the list
pub get-front : {A : Type 0} (xs ys : List A) (i : ℕ) (y : A) → slice_get xs i ≡ Some y
    → slice_get (xs ++ ys) i ≡ Some y
get-front [] ys i y h = cc h
get-front (x ∷ xs) ys zero y h = h
get-front (x ∷ xs) ys (suc i) y h = get-front xs ys i y h

-- an element of a list with one more is one of the list, or the last
pub get-cases : {A : Type 0} (xs : List A) (x : A) (i : ℕ) (y : A) → slice_get (xs ++ x ∷ []) i ≡ Some y
    → (slice_get xs i ≡ Some y) ⊎ ((i ≡ length xs) × (x ≡ y))
get-cases [] x zero y h = inr (refl, same-some x y h)
get-cases [] x (suc i) y h = cc h
get-cases (z ∷ xs) x zero y h = inl h
get-cases (z ∷ xs) x (suc i) y h = elim (get-cases xs x i y h) [
  | inl before ↦ inl before
  | inr last ↦ inr (ap suc last.0, last.1)
]

pub get-last : {A : Type 0} (xs : List A) (x : A) → slice_get (xs ++ x ∷ []) (length xs) ≡ Some x
get-last [] x = refl
get-last (z ∷ xs) x = get-last xs x

-- the element at an index below the length
pub get-at : {A : Type 0} (xs : List A) (i : ℕ) (x : A) → i < length xs → x ≡ get_or xs i x
    → slice_get xs i ≡ Some x
get-at xs i x low e = slice_get-get_or xs i x low ∙ ap Some (sym e)

pub length-more : {A : Type 0} (xs : List A) (x : A) → length (xs ++ x ∷ []) ≡ suc (length xs)
length-more [] x = refl
length-more (z ∷ xs) x = ap suc (length-more xs x)

-- ---- filters

pub filter-none : {A : Type 0} (p : A → Bool) (xs : List A) → All (λ x. p x ≡ false) xs → filter p xs ≡ []
filter-none p [] h = refl
filter-none p (x ∷ xs) h =
    let here : p x ≡ false = All-head (λ y. p y ≡ false) x xs h in
    rw here (filter-none p xs (All-tail (λ y. p y ≡ false) x xs h))

pub filter-whole : {A : Type 0} (p : A → Bool) (xs : List A) → All (λ x. p x ≡ true) xs → filter p xs ≡ xs
filter-whole {A} p [] h = refl
filter-whole {A} p (x ∷ xs) h =
    let here : p x ≡ true = All-head (λ y. p y ≡ true) x xs h in
    rw here (ap (λ (rest : List A). x ∷ rest) (filter-whole p xs (All-tail (λ y. p y ≡ true) x xs h)))

pub filter-same : {A : Type 0} (p q : A → Bool) (xs : List A) → All (λ x. p x ≡ q x) xs → filter p xs
    ≡ filter q xs
filter-same {A} p q [] h = refl
filter-same {A} p q (x ∷ xs) h =
    by (q x) (All-head (λ y. p y ≡ q y) x xs h) refl (filter-same p q xs (All-tail (λ y. p y ≡ q y) x xs h))
  where
    by : (b : Bool) → p x ≡ q x → q x ≡ b → filter p xs ≡ filter q xs → filter p (x ∷ xs) ≡ filter q (x ∷ xs)
    by true e f rest = let g : p x ≡ true = e ∙ f in rw (g, f) (ap (λ (l : List A). x ∷ l) rest)
    by false e f rest = let g : p x ≡ false = e ∙ f in rw (g, f) rest

-- none of what was added passes the filter
pub filter-front : {A : Type 0} (p : A → Bool) (xs ys : List A) → All (λ x. p x ≡ false) ys
    → filter p (xs ++ ys) ≡ filter p xs
filter-front {A} p xs ys h =
    filter-append p xs ys ∙ ap (λ (l : List A). filter p xs ++ l) (filter-none p ys h)
    ∙ append-nil (filter p xs)

-- all that was added passes the filter, and nothing else
pub filter-last : {A : Type 0} (p : A → Bool) (xs ys : List A) → All (λ x. p x ≡ false) xs
    → All (λ x. p x ≡ true) ys → filter p (xs ++ ys) ≡ ys
filter-last {A} p xs ys none whole =
    filter-append p xs ys ∙ ap (λ (l : List A). l ++ filter p ys) (filter-none p xs none)
    ∙ filter-whole p ys whole

-- ---- the numbers below one

pub all-below : (P : ℕ → Type 0) (n : ℕ) → ((i : ℕ) → i < n → P i) → All P (below n)
all-below P zero h = All-nil P
all-below P (suc n) h = All-push P (below n) n (all-below P n (λ i low. h i (omega (arith, low))))
    (h n (omega arith))

pub flat-same : {A B : Type 0} (f g : A → List B) (xs : List A) → All (λ x. f x ≡ g x) xs → flat_map f xs
    ≡ flat_map g xs
flat-same f g [] h = refl
flat-same {A} {B} f g (x ∷ xs) h =
    flat_map-cons f x xs ∙ ap (λ (l : List B). l ++ flat_map f xs) (All-head (λ y. f y ≡ g y) x xs h)
    ∙ ap (λ (l : List B). g x ++ l) (flat-same f g xs (All-tail (λ y. f y ≡ g y) x xs h))
    ∙ sym (flat_map-cons g x xs)

pub all-flat : {A B : Type 0} (P : B → Type 0) (f : A → List B) (xs : List A) → All (λ x. All P (f x)) xs
    → All P (flat_map f xs)
all-flat P f [] h = All-nil P
all-flat {A} {B} P f (x ∷ xs) h =
    subst (λ (l : List B). All P l) (sym (flat_map-cons f x xs))
    (All-append P (f x) (flat_map f xs) (All-head (λ y. All P (f y)) x xs h)
    (all-flat P f xs (All-tail (λ y. All P (f y)) x xs h)))

pub flat-one : {A B : Type 0} (f : A → List B) (x : A) → flat_map f (x ∷ []) ≡ f x
flat-one f x = flat_map-cons f x [] ∙ append-nil (f x)

-- an element before a place is among those that are taken up to it
pub get-taken : {A : Type 0} (xs : List A) (k j : ℕ) (y : A) → j < k → slice_get xs j ≡ Some y
    → slice_get (take k xs) j ≡ Some y
get-taken [] k j y low e = cc e
get-taken (x ∷ xs) zero j y low e = absurd (omega (arith, low))
get-taken (x ∷ xs) (suc k) zero y low e = e
get-taken (x ∷ xs) (suc k) (suc j) y low e = get-taken xs k j y (omega (arith, low)) e

-- and one of those is one of the list
pub get-of-taken : {A : Type 0} (xs : List A) (k j : ℕ) (y : A) → slice_get (take k xs) j ≡ Some y
    → slice_get xs j ≡ Some y
get-of-taken {A} xs k j y e =
    subst (λ (ys : List A). slice_get ys j ≡ Some y) (take-append-drop k xs)
    (get-front (take k xs) (drop k xs) j y e)

-- there is an element at each place of a list
pub get-some : {A : Type 0} (xs : List A) (i : ℕ) → i < length xs → (x : A) × (slice_get xs i ≡ Some x)
get-some [] i low = absurd (none i low)
  where
    none : (k : ℕ) → k < 0 → ⊥
    none k h = omega arith
get-some (x ∷ xs) zero low = (x, refl)
get-some (x ∷ xs) (suc i) low = get-some xs i (omega (arith, low))

-- what holds of two elements, where they are there
pub each-some : {A B : Type 0} (a : Option A) (b : Option B) (Q : A → B → Type 0)
    → ((x : A) (y : B) → a ≡ Some x → b ≡ Some y → Q x y)
    → IfSome a (λ x. IfSome b (λ y. Q x y))
each-some None b Q h = tt
each-some (Some x) None Q h = tt
each-some (Some x) (Some y) Q h = h x y refl refl

-- where there is an element, the search at its place finds one
pub get-past : {A : Type 0} (xs : List A) (i : ℕ) (o : Option A) → i < length xs → o ≡ slice_get xs i
    → IsSome o
get-past {A} xs i o low e = subst (λ (x : Option A). IsSome x) (sym (e ∙ (get-some xs i low).1)) refl
