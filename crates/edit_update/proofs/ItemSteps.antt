-- One more iteration of a loop over a list.
use Rattle.std.proofs.Common.{◌≡◌, ◌∷◌, ◌++◌, ◌<◌, ◌≤◌, ◌+◌, refl, suc, length, get_or, take, drop, drop-cons, [], List, ℕ, map, ap, ◌∙◌, sym, add-one}
use Rattle.std.specs.List.{flat_map, join_by}
use Rattle.std.proofs.lemmas.List.{drop_all, map-append, take-append-drop, take_more}

-- what a function gives of the elements that are left
pub left_map : {A B : Type 0} (f : A → B) (xs : List A) (i : ℕ) (x : A) → i < length xs → x ≡ get_or xs i x
    → map f (drop i xs) ≡ f x ∷ map f (drop (i + 1) xs)
left_map {A} {B} f xs i x h e =
    rw add-one (ap (map f) (drop-cons xs i x h) ∙ ap (λ (y : A). f y ∷ map f (drop (suc i) xs)) (sym e))

-- what it gives of those that were taken, and of one more
pub taken_map : {A B : Type 0} (f : A → B) (xs : List A) (i : ℕ) (x : A) → i < length xs → x ≡ get_or xs i x
    → map f (take (i + 1) xs) ≡ map f (take i xs) ++ f x ∷ []
taken_map {A} {B} f xs i x h e =
    ap (map f) (take_more xs i x h) ∙ map-append f (take i xs) (get_or xs i x ∷ [])
    ∙ ap (λ (y : A). map f (take i xs) ++ f y ∷ []) (sym e)

-- what it gives of all of them
pub split_map : {A B : Type 0} (f : A → B) (xs : List A) (i : ℕ) (x : A) → i < length xs → x ≡ get_or xs i x
    → map f xs ≡ map f (take i xs) ++ f x ∷ map f (drop (i + 1) xs)
split_map {A} {B} f xs i x h e =
    ap (map f) (sym (take-append-drop i xs)) ∙ map-append f (take i xs) (drop i xs)
    ∙ ap (λ l. map f (take i xs) ++ l) (left_map f xs i x h e)

-- what it gives of those that are left at the end
pub none_left : {A B : Type 0} (f : A → B) (xs : List A) (i : ℕ) → length xs ≤ i → map f (drop i xs) ≡ []
none_left {A} {B} f xs i le = ap (map f) (drop_all i xs le)

flat_of : {A B : Type 0} (f : A → B) (g : B → List ℕ) (xs : List A)
    → flat_map (λ x. g (f x)) xs ≡ flat_map g (map f xs)
flat_of f g [] = refl
flat_of f g (x ∷ xs) = ap (λ l. g (f x) ++ l) (flat_of f g xs)

-- texts that are joined
pub joined_map : {A : Type 0} (f : A → List ℕ) (sep : List ℕ) (xs : List A)
    → join_by f sep xs ≡ join_by (λ (x : List ℕ). x) sep (map f xs)
joined_map f sep [] = refl
joined_map f sep (x ∷ xs) = ap (λ l. f x ++ l) (flat_of f (λ y. sep ++ y) xs)
