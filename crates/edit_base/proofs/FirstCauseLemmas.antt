-- The first cause in a list, by the parts of the list.
use Rattle.std.proofs.Common.{◌≡◌, ◌∙◌, ◌+◌, ◌<◌, ◌++◌, ◌∷◌, [], ℕ, zero, arith, List, ap, drop, get_or, length, map, refl, subst, sym, take}
use Rattle.std.specs.Prelude.{All}
use Rattle.std.proofs.lemmas.List.{append_assoc, drop_more, map-append, take-append-drop}
use Rattle.std.proofs.lemmas.List.Elements.{All-append, All-contains, All-map, All-nil, Contains-append_right}
use Rattle.edit_base.specs.FirstCauses.{HasFirstCause}

-- a list is what precedes an index, the element there, and what follows
pub split_at : {X : Type 0} (xs : List X) (i : ℕ) (x : X) → i < length xs → x ≡ get_or xs i x
    → xs ≡ take i xs ++ x ∷ drop (i + 1) xs
split_at {X} xs i x within is =
    sym (take-append-drop i xs) ∙ ap (λ (ys : List X). take i xs ++ ys)
    (drop_more xs i x within ∙ ap (λ (y : X). y ∷ drop (i + 1) xs) (sym is))

-- the element at an index is a cause, and all before it are good
pub first_at : {X : Type 0} (G C : X → Type 0) (xs : List X) (i : ℕ) (x : X) → i < length xs
    → x ≡ get_or xs i x → All G (take i xs) → C x → HasFirstCause G C xs
first_at G C xs i x within is good cause = record {
  before = take i xs;
  first = x;
  behind = drop (i + 1) xs;
  within = split_at xs i x within is;
  good = good;
  cause = cause;
}

-- the first element is a cause
pub first_here : {X : Type 0} (G C : X → Type 0) (x : X) (xs : List X) → C x → HasFirstCause G C (x ∷ xs)
first_here G C x xs cause = record {
  before = [];
  first = x;
  behind = xs;
  within = refl;
  good = All-nil G;
  cause = cause;
}

-- the first cause of a list is that of a longer one
pub first_before : {X : Type 0} (G C : X → Type 0) (xs ys : List X) → HasFirstCause G C xs
    → HasFirstCause G C (xs ++ ys)
first_before {X} G C xs ys has = record {
  before = has.before;
  first = has.first;
  behind = has.behind ++ ys;
  within = ap (λ (zs : List X). zs ++ ys) has.within ∙ append_assoc has.before (has.first ∷ has.behind) ys;
  good = has.good;
  cause = has.cause;
}

-- the first cause of a list is that of a list with good elements before it
pub first_behind : {X : Type 0} (G C : X → Type 0) (xs ys : List X) → All G xs → HasFirstCause G C ys
    → HasFirstCause G C (xs ++ ys)
first_behind {X} G C xs ys good has = record {
  before = xs ++ has.before;
  first = has.first;
  behind = has.behind;
  within = ap (λ (zs : List X). xs ++ zs) has.within
      ∙ sym (append_assoc xs has.before (has.first ∷ has.behind));
  good = All-append G xs has.before good has.good;
  cause = has.cause;
}

-- the first cause of a list, by what a function makes of its elements
pub first_mapped : {X Y : Type 0} (f : X → Y) (G C : Y → Type 0) (xs : List X)
    → HasFirstCause (λ (x : X). G (f x)) (λ (x : X). C (f x)) xs → HasFirstCause G C (map f xs)
first_mapped f G C xs has = record {
  before = map f has.before;
  first = f has.first;
  behind = map f has.behind;
  within = ap (map f) has.within ∙ map-append f has.before (has.first ∷ has.behind);
  good = All-map G f has.before has.good;
  cause = has.cause;
}

-- where all elements are good, the first cause is
pub first_good : {X : Type 0} (G C : X → Type 0) (xs : List X) (has : HasFirstCause G C xs) → All G xs
    → G has.first
first_good {X} G C xs has all =
    All-contains G (has.before ++ has.first ∷ has.behind) has.first (subst (All G) has.within all)
    (Contains-append_right has.before (has.first ∷ has.behind) has.first (zero, omega arith, refl))
