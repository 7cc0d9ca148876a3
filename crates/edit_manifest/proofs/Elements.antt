-- Properties of each element of lists that are built from others.
use Rattle.std.proofs.Common.{◌∷◌, ◌++◌, [], List, map}
use Rattle.std.specs.List.{AllByRecursion, flat_map}

pub all-both : {A : Type 0} (P : A → Type 0) (xs ys : List A) → AllByRecursion P xs → AllByRecursion P ys
    → AllByRecursion P (xs ++ ys)
all-both P [] ys h g = g
all-both P (x ∷ xs) ys h g = (h.0, all-both P xs ys h.1 g)

pub all-map : {A : Type 0} (P Q : A → Type 0) (xs : List A) → ((x : A) → P x → Q x) → AllByRecursion P xs
    → AllByRecursion Q xs
all-map P Q [] f h = tt
all-map P Q (x ∷ xs) f h = (f x h.0, all-map P Q xs f h.1)

-- what holds of all that a function gives of the elements of which something holds
pub flat-some : {A B : Type 0} (Q : A → Type 0) (P : B → Type 0) (f : A → List B) (xs : List A)
    → AllByRecursion Q xs
    → ((x : A) → Q x → AllByRecursion P (f x)) → AllByRecursion P (flat_map f xs)
flat-some Q P f [] h g = tt
flat-some Q P f (x ∷ xs) h g = all-both P (f x) (flat_map f xs) (g x h.0) (flat-some Q P f xs h.1 g)

pub mapped-all : {A B : Type 0} (Q : A → Type 0) (P : B → Type 0) (f : A → B) (xs : List A)
    → AllByRecursion Q xs → ((x : A) → Q x → P (f x)) → AllByRecursion P (map f xs)
mapped-all Q P f [] h g = tt
mapped-all Q P f (x ∷ xs) h g = (g x h.0, mapped-all Q P f xs h.1 g)

pub any-all : {A : Type 0} (xs : List A) → AllByRecursion (λ x. Unit {0}) xs
any-all [] = tt
any-all (x ∷ xs) = (tt, any-all xs)

pub all-two : {A : Type 0} (P Q : A → Type 0) (xs : List A) → AllByRecursion P xs → AllByRecursion Q xs
    → AllByRecursion (λ x. P x × Q x) xs
all-two P Q [] h g = tt
all-two P Q (x ∷ xs) h g = ((h.0, g.0), all-two P Q xs h.1 g.1)

pub all-swap : {A B : Type 0} (P : A → B → Type 0) (xs : List A) (ys : List B)
    → AllByRecursion (λ y. AllByRecursion (λ x. P x y) xs) ys
    → AllByRecursion (λ x. AllByRecursion (λ y. P x y) ys) xs
all-swap P [] ys h = tt
all-swap P (x ∷ xs) ys h = (
  all-map (λ y. AllByRecursion (λ z. P z y) (x ∷ xs)) (λ y. P x y) ys (λ y k. k.0) h,
  all-swap P xs ys
      (all-map (λ y. AllByRecursion (λ z. P z y) (x ∷ xs)) (λ y. AllByRecursion (λ z. P z y) xs) ys
      (λ y k. k.1) h),
)
