-- One more step of a loop that maps a list.
use Rattle.std.proofs.Common.{◌≡◌, ◌∷◌, ◌++◌, ◌<◌, ◌+◌, suc, length, get_or, take, drop, drop-cons, [], List, ℕ, Option, Some, None, map, ap, ◌∙◌, sym, append-nil}
use Rattle.std.specs.List.{cons_option, filter_map}
use Rattle.std.proofs.lemmas.List.{map-append, take-append-drop, take_more}
use Rattle.std.proofs.lemmas.List.Elements.{filter_map-append}

whole : {A B C : Type 0} (v : C → A) (f : A → Option B) (ys : List C) (y : C)
    → filter_map f (map v (ys ++ y ∷ [])) ≡ filter_map f (map v ys) ++ cons_option (f (v y)) []
whole v f ys y = ap (filter_map f) (map-append v ys (y ∷ [])) ∙ filter_map-append f (map v ys) (v y ∷ [])

-- the item gives nothing
pub filtered-none : {A B C : Type 0} (v : C → A) (f : A → Option B) (ys : List C) (y : C) (xs : List B)
    → xs ≡ filter_map f (map v ys) → f (v y) ≡ None → xs ≡ filter_map f (map v (ys ++ y ∷ []))
filtered-none {A} {B} v f ys y xs e h =
    e ∙ sym (whole v f ys y ∙ ap (λ (o : Option B). filter_map f (map v ys) ++ cons_option o []) h
    ∙ append-nil (filter_map f (map v ys)))

-- the item gives one
pub filtered-some : {A B C D : Type 0} (v : C → A) (f : A → Option B) (g : D → B) (ys : List C) (y : C)
    (old new : List D) (d : D)
    → map g old ≡ filter_map f (map v ys) → f (v y) ≡ Some (g d) → new ≡ old ++ d ∷ []
    → map g new ≡ filter_map f (map v (ys ++ y ∷ []))
filtered-some {A} {B} v f g ys y old new d e h n =
    ap (map g) n ∙ map-append g old (d ∷ []) ∙ ap (λ (l : List B). l ++ g d ∷ []) e
    ∙ sym (whole v f ys y ∙ ap (λ (o : Option B). filter_map f (map v ys) ++ cons_option o []) h)

-- what a function gives of one more of a list's elements
pub names-more : {A B : Type 0} (f : A → B) (xs : List A) (i : ℕ) (x : A) → i < length xs → x ≡ get_or xs i x
    → map f (take (i + 1) xs) ≡ map f (take i xs) ++ f x ∷ []
names-more {A} {B} f xs i x h e =
    ap (map f) (take_more xs i x h) ∙ map-append f (take i xs) (get_or xs i x ∷ [])
    ∙ ap (λ (y : A). map f (take i xs) ++ f y ∷ []) (sym e)

-- what it gives of those before an element, of the element, and of those after it
pub names-split : {A B : Type 0} (f : A → B) (xs : List A) (i : ℕ) (x : A) → i < length xs → x ≡ get_or xs i x
    → map f xs ≡ map f (take i xs) ++ f x ∷ map f (drop (suc i) xs)
names-split {A} {B} f xs i x h e =
    ap (map f) (sym (take-append-drop i xs)) ∙ map-append f (take i xs) (drop i xs)
    ∙ ap (λ (l : List A). map f (take i xs) ++ map f l) (drop-cons xs i x h)
    ∙ ap (λ (y : A). map f (take i xs) ++ f y ∷ map f (drop (suc i) xs)) (sym e)

-- one more of a list's elements
pub taken-more : {A : Type 0} (xs : List A) (i : ℕ) (x : A) → i < length xs → x ≡ get_or xs i x
    → take (i + 1) xs ≡ take i xs ++ x ∷ []
taken-more {A} xs i x h e = take_more xs i x h ∙ ap (λ (y : A). take i xs ++ y ∷ []) (sym e)
