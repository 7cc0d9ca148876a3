-- Tests that agree, and the lists that they filter.
use Rattle.std.proofs.Common.{◌≡◌, List, [], ◌∷◌, Bool, true, false, cond, refl, sym, ap, ◌∙◌}
use Rattle.std.specs.Prelude.{◌&&◌, All, filter}
use Rattle.std.proofs.lemmas.List.Elements.{All-head, All-tail}
use mathlib.Core.Path.{fun_ext}

-- two tests are one where each holds with the other
pub same-bools : (a b : Bool) → (a ≡ true → b ≡ true) → (b ≡ true → a ≡ true) → a ≡ b
same-bools true b f g = sym (f refl)
same-bools false true f g = g refl
same-bools false false f g = refl

-- two tests that agree leave the same list
pub filter-same : {X : Type 0} (p q : X → Bool) → ((x : X) → p x ≡ q x) → (xs : List X) → filter p xs
    ≡ filter q xs
filter-same p q same xs = ap (λ t. filter t xs) (fun_ext same)

-- two tests that agree on the elements of a list leave the same list
pub filter-here : {X : Type 0} (p q : X → Bool) (xs : List X) → All (λ x. p x ≡ q x) xs
    → filter p xs ≡ filter q xs
filter-here p q [] same = refl
filter-here p q (x ∷ xs) same =
    ap (λ b. cond b (x ∷ filter p xs) (filter p xs)) (All-head (λ x. p x ≡ q x) x xs same)
    ∙ ap (λ l. cond (q x) (x ∷ l) l) (filter-here p q xs (All-tail (λ x. p x ≡ q x) x xs same))

twice : {X : Type 0} (p : X → Bool) (x : X) (ys zs : List X) (b : Bool) → filter p ys ≡ zs
    → filter p (cond b (x ∷ ys) ys) ≡ cond (b && p x) (x ∷ zs) zs
twice p x ys zs true e = ap (λ l. cond (p x) (x ∷ l) l) e
twice p x ys zs false e = e

-- what two tests leave, one after the other
pub filter-filter : {X : Type 0} (p q : X → Bool) (xs : List X)
    → filter p (filter q xs) ≡ filter (λ x. q x && p x) xs
filter-filter p q [] = refl
filter-filter p q (x ∷ xs) =
    twice p x (filter q xs) (filter (λ x. q x && p x) xs) (q x) (filter-filter p q xs)
