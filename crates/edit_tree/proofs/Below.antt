-- Places extended by one step, and properties of each element of a list.
use Rattle.std.proofs.Common.{◌≡◌, ℕ, zero, suc, Bool, true, false, List, [], ◌∷◌, ◌++◌, Some, None, refl, sym, ap, subst, ◌∙◌}
use Rattle.std.specs.Prelude.{slice_get}
use Rattle.std.specs.List.{AllByRecursion}
use Rattle.std.proofs.lemmas.Option.{same_Some}
use Rattle.edit_tree.specs.Assertions.{Step, Place, at, same_step}
use Rattle.edit_tree.specs.Tree.{step_from}
use Rattle.edit_tree.proofs.SamePlace.{same_step_self, same_step_is}

-- ---- one step further

pub step_from_at : (q : Place) (s : Step) → step_from q (at q s) ≡ Some s
step_from_at [] s = refl
step_from_at (x ∷ []) s = rw (same_step_self x) refl
step_from_at (x ∷ y ∷ q) s = rw (same_step_self x) (step_from_at (y ∷ q) s)

pub step_from_is : (q r : Place) (s : Step) → step_from q r ≡ Some s → r ≡ at q s
step_from_is [] [] s e = absurd cc
step_from_is [] (x ∷ []) s e = ap (λ (y : Step). y ∷ []) (same_Some x s e)
step_from_is [] (x ∷ y ∷ r) s e = absurd cc
step_from_is (x ∷ q) [] s e = absurd cc
step_from_is (x ∷ q) (y ∷ r) s e = go (same_step x y) refl e (step_from_is q r s)
  where
    go : (b : Bool) → same_step x y ≡ b → (step_from (x ∷ q) (y ∷ r)) ≡ Some s
        → (step_from q r ≡ Some s → r ≡ at q s) → y ∷ r ≡ x ∷ at q s
    go true t h ih = let same : x ≡ y = same_step_is x y t in let k : step_from q r ≡ Some s = rw t at h in
        ap (λ (z : Step). z ∷ r) (sym same) ∙ ap (λ (p : Place). x ∷ p) (ih k)
    go false t h ih = absurd (let k : None ≡ Some s = rw t at h in cc)

-- ---- each element

pub all_at : {X : Type 0} (P : X → Type 0) (xs : List X) (i : ℕ) (x : X) → AllByRecursion P xs
    → slice_get xs i ≡ Some x → P x
all_at P [] i x h e = absurd cc
all_at P (y ∷ ys) zero x h e = subst P (same_Some y x e) h.0
all_at P (y ∷ ys) (suc i) x h e = all_at P ys i x h.1 e

pub all_from : {X : Type 0} (P : X → Type 0) (xs : List X) → ((i : ℕ) (x : X) → slice_get xs i ≡ Some x → P x)
    → AllByRecursion P xs
all_from P [] h = tt
all_from P (y ∷ ys) h = (h 0 y refl, all_from P ys (λ i x e. h (suc i) x e))

pub all_front : {X : Type 0} (P : X → Type 0) (xs ys : List X) → AllByRecursion P (xs ++ ys)
    → AllByRecursion P xs
all_front P [] ys h = tt
all_front P (x ∷ xs) ys h = (h.0, all_front P xs ys h.1)

pub all_push : {X : Type 0} (P : X → Type 0) (xs : List X) (y : X) → AllByRecursion P xs → P y
    → AllByRecursion P (xs ++ y ∷ [])
all_push P [] y h p = (p, tt)
all_push P (x ∷ xs) y h p = (h.0, all_push P xs y h.1 p)

pub all_last : {X : Type 0} (P : X → Type 0) (xs : List X) (y : X) → AllByRecursion P (xs ++ y ∷ []) → P y
all_last P [] y h = h.0
all_last P (x ∷ xs) y h = all_last P xs y h.1
