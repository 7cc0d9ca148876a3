-- The texts copied so far by a loop.
use Rattle.std.proofs.Common.{◌≡◌, ◌∙◌, ◌<◌, ◌+◌, ◌++◌, ◌∷◌, ℕ, List, [], ap, ap₂, length, map, sym, take, get_or}
use Rattle.std.proofs.lemmas.List.{map-append, take_more}

-- one more copy
pub one_more : {A B C : Type 0} (f : A → C) (g : B → C) (old new : List A) (one : A) (xs : List B) (i : ℕ)
    (other : B) → i < length xs → f one ≡ g (get_or xs i other) → new ≡ old ++ one ∷ []
    → map f old ≡ map g (take i xs) → map f new ≡ map g (take (i + 1) xs)
one_more {A} {B} {C} f g old new one xs i other low same pushed before =
    ap (map f) pushed ∙ map-append f old (one ∷ [])
    ∙ ap₂ (λ (a : List C) (b : C). a ++ b ∷ []) before same
    ∙ sym (ap (map g) (take_more xs i other low) ∙ map-append g (take i xs) (get_or xs i other ∷ []))
