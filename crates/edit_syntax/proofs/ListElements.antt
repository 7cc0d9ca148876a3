-- Elements of a list after one element is changed or appended.
use Rattle.std.proofs.Common.{◌≡◌, ℕ, zero, suc, ◌+◌, ◌<◌, List, [], ◌∷◌, ◌++◌, length, drop, Some, refl, sym, ap, ◌∙◌, ◌⊎◌, inl, inr, arith, get_or}
use Rattle.std.specs.Prelude.{slice_get, slice_set}
use Rattle.std.proofs.lemmas.Bool.{cases_lt}
use Rattle.std.proofs.lemmas.List.{length_push}
use Rattle.std.proofs.lemmas.Option.{slice_get_within, same_Some}

pub get_front : {X : Type 0} (xs ys : List X) (i : ℕ) → i < length xs
    → slice_get (xs ++ ys) i ≡ slice_get xs i
get_front [] ys i lt = absurd (omega arith)
get_front (x ∷ xs) ys zero lt = refl
get_front (x ∷ xs) ys (suc i) lt = get_front xs ys i (omega arith)

pub get_last : {X : Type 0} (xs : List X) (y : X) → slice_get (xs ++ y ∷ []) (length xs) ≡ Some y
get_last [] y = refl
get_last (x ∷ xs) y = get_last xs y

pub get_set_same : {X : Type 0} (xs : List X) (i : ℕ) (y : X) → i < length xs
    → slice_get (slice_set xs i y) i ≡ Some y
get_set_same [] i y lt = absurd (omega arith)
get_set_same (x ∷ xs) zero y lt = refl
get_set_same (x ∷ xs) (suc i) y lt = get_set_same xs i y (omega arith)

pub get_set_other : {X : Type 0} (xs : List X) (i j : ℕ) (y : X) → (j ≡ i → ⊥)
    → slice_get (slice_set xs i y) j ≡ slice_get xs j
get_set_other [] i j y ne = refl
get_set_other (x ∷ xs) zero zero y ne = absurd (ne refl)
get_set_other (x ∷ xs) zero (suc j) y ne = refl
get_set_other (x ∷ xs) (suc i) zero y ne = refl
get_set_other (x ∷ xs) (suc i) (suc j) y ne = get_set_other xs i j y (λ e. ne (ap suc e))

pub equal_or : (i j : ℕ) → (i ≡ j) ⊎ (i ≡ j → ⊥)
equal_or i j = elim (cases_lt i j) [
  | inl a ↦ inr (λ e. absurd (omega arith))
  | inr a ↦ elim
      (cases_lt j i) [ inl b ↦ inr (λ e. absurd (omega arith)) | inr b ↦ inl (omega arith) ]
]

-- an element of a list with one changed: the changed one, or another one
pub data OneSet {X : Type 0} (xs : List X) (t : ℕ) (new : X) (i : ℕ) (x : X) : Type 0 where
  changed : i ≡ t → x ≡ new → OneSet xs t new i x
  other : (i ≡ t → ⊥) → slice_get xs i ≡ Some x → OneSet xs t new i x

pub in_set : {X : Type 0} (xs : List X) (t : ℕ) (new : X) (i : ℕ) (x : X) → t < length xs
    → slice_get (slice_set xs t new) i ≡ Some x → OneSet xs t new i x
in_set xs t new i x lt e = elim (equal_or i t) [
  | inl same ↦ changed same
      (same_Some x new (sym e ∙ ap (slice_get (slice_set xs t new)) same ∙ get_set_same xs t new lt))
  | inr ne ↦ other ne (sym (get_set_other xs t i new ne) ∙ e)
]

-- an element of a list with one more: an old one, or the last
pub data OneMore {X : Type 0} (xs : List X) (last : X) (i : ℕ) (x : X) : Type 0 where
  stood : i < length xs → slice_get xs i ≡ Some x → OneMore xs last i x
  newest : i ≡ length xs → x ≡ last → OneMore xs last i x

pub in_push : {X : Type 0} (xs : List X) (last : X) (i : ℕ) (x : X) → slice_get (xs ++ last ∷ []) i ≡ Some x
    → OneMore xs last i x
in_push xs last i x e =
    elim (cases_lt i (length xs)) [
      | inl a ↦ stood a (sym (get_front xs (last ∷ []) i a) ∙ e)
      | inr a ↦
          let within = slice_get_within (xs ++ last ∷ []) i x e in
          let more : length (xs ++ last ∷ []) ≡ length xs + 1 = length_push xs last in
          let here : i ≡ length xs = omega arith in
          newest here (same_Some x last (sym e ∙ ap (slice_get (xs ++ last ∷ [])) here ∙ get_last xs last))
    ]

-- a list from one of its elements on
pub drop_from : {X : Type 0} (xs : List X) (i : ℕ) (x : X) → slice_get xs i ≡ Some x
    → drop i xs ≡ x ∷ drop (i + 1) xs
drop_from [] i x e = absurd cc
drop_from (y ∷ ys) zero x e = let h : y ≡ x = same_Some y x e in ap (λ z. z ∷ ys) h
drop_from (y ∷ ys) (suc i) x e = let up : suc i + 1 ≡ suc (i + 1) = omega arith in rw up (drop_from ys i x e)

pub slice_get_same : {X : Type 0} (xs : List X) (i : ℕ) (x y : X) → slice_get xs i ≡ Some x
    → slice_get xs i ≡ Some y → x ≡ y
slice_get_same xs i x y a b = same_Some x y (sym a ∙ b)

-- the byte behind a front
pub get_seam : (xs ys : List ℕ) (y : ℕ) → get_or (xs ++ (y ∷ ys)) (length xs) 0 ≡ y
get_seam [] ys y = refl
get_seam (x ∷ xs) ys y = get_seam xs ys y
