-- Facts about lists, one element at a time.
use Rattle.std.proofs.Common.{◌≡◌, ◌∷◌, ◌++◌, ◌<◌, ◌+◌, length, get_or, take, drop, [], List, ℕ, Bool, map, ap, sym, refl, ◌∙◌}
use Rattle.std.specs.Prelude.{◌||◌}
use Rattle.std.specs.List.{list_any}
use Rattle.std.proofs.lemmas.List.{drop_more, map-append, take_more}

-- one more of a list's elements
pub taken-more : {A : Type 0} (xs : List A) (i : ℕ) (x : A) → i < length xs → x ≡ get_or xs i x
    → take (i + 1) xs ≡ take i xs ++ x ∷ []
taken-more {A} xs i x h e = take_more xs i x h ∙ ap (λ (y : A). take i xs ++ y ∷ []) (sym e)

-- the first of the elements that are left
pub left-more : {A : Type 0} (xs : List A) (i : ℕ) (x : A) → i < length xs → x ≡ get_or xs i x
    → drop i xs ≡ x ∷ drop (i + 1) xs
left-more {A} xs i x h e = drop_more xs i x h ∙ ap (λ (y : A). y ∷ drop (i + 1) xs) (sym e)

-- what a function gives of one more of a list's elements
pub mapped-more : {A B : Type 0} (f : A → B) (xs : List A) (i : ℕ) (x : A) → i < length xs → x ≡ get_or xs i x
    → map f (take (i + 1) xs) ≡ map f (take i xs) ++ f x ∷ []
mapped-more f xs i x h e = ap (map f) (taken-more xs i x h e) ∙ map-append f (take i xs) (x ∷ [])

-- a test of what a function gives
pub list_any-map : {A B : Type 0} (p : B → Bool) (f : A → B) (xs : List A)
    → list_any p (map f xs) ≡ list_any (λ x. p (f x)) xs
list_any-map p f [] = refl
list_any-map p f (x ∷ xs) = ap (λ b. p (f x) || b) (list_any-map p f xs)
