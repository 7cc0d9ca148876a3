-- One more step of a loop that filters a list.
use Rattle.std.proofs.Common.{◌≡◌, ◌∷◌, ◌++◌, ◌<◌, ◌+◌, length, get_or, take, [], List, ℕ, Bool, true, false, cond, map, ap, ◌∙◌, sym, append-nil, append_assoc}
use Rattle.std.specs.List.{filter}
use Rattle.std.proofs.lemmas.List.{map-append}
use Rattle.std.proofs.lemmas.List.Elements.{filter-append}
use Rattle.edit_upgrade.proofs.Steps.{names-more}

-- the selection of a list with one more item
chosen-more : {A B : Type 0} (f : A → B) (p : B → Bool) (xs : List A) (i : ℕ) (x : A) (b : Bool)
    → i < length xs → x ≡ get_or xs i x → p (f x) ≡ b
    → filter p (map f (take (i + 1) xs)) ≡ filter p (map f (take i xs)) ++ cond b (f x ∷ []) []
chosen-more {A} {B} f p xs i x b h is t =
    let before = map f (take i xs) in
    ap (filter p) (names-more f xs i x h is) ∙ filter-append p before (f x ∷ [])
    ∙ ap (λ (z : Bool). filter p before ++ cond z (f x ∷ []) []) t

-- the item is selected
pub chosen-some : {A B D : Type 0} (f : A → B) (g : D → A) (p : B → Bool) (xs : List A) (i : ℕ) (x : A)
    (old new : List D) (d : D)
    → i < length xs → x ≡ get_or xs i x → p (f x) ≡ true
    → map f (map g old) ≡ filter p (map f (take i xs)) → new ≡ old ++ d ∷ [] → g d ≡ x
    → map f (map g new) ≡ filter p (map f (take (i + 1) xs))
chosen-some {A} {B} {D} f g p xs i x old new d h is t e n one =
    ap (λ (ys : List D). map f (map g ys)) n ∙ ap (map f) (map-append g old (d ∷ []))
    ∙ map-append f (map g old) (g d ∷ [])
    ∙ ap (λ (ys : List B). ys ++ f (g d) ∷ []) e
    ∙ ap (λ (y : A). filter p (map f (take i xs)) ++ f y ∷ []) one
    ∙ sym (chosen-more f p xs i x true h is t)

-- the item is not selected
pub chosen-none : {A B D : Type 0} (f : A → B) (g : D → A) (p : B → Bool) (xs : List A) (i : ℕ) (x : A)
    (old new : List D)
    → i < length xs → x ≡ get_or xs i x → p (f x) ≡ false
    → map f (map g old) ≡ filter p (map f (take i xs)) → new ≡ old
    → map f (map g new) ≡ filter p (map f (take (i + 1) xs))
chosen-none {A} {B} {D} f g p xs i x old new h is t e n =
    ap (λ (ys : List D). map f (map g ys)) n ∙ e ∙ sym (append-nil (filter p (map f (take i xs))))
    ∙ sym (chosen-more f p xs i x false h is t)

-- the selection of a list with one more item, where the list is read in two steps
within-more : {A B C : Type 0} (f : B → C) (g : A → B) (p : C → Bool) (xs : List A) (i : ℕ) (x : A) (b : Bool)
    → i < length xs → x ≡ get_or xs i x → p (f (g x)) ≡ b
    → filter p (map f (map g (take (i + 1) xs)))
    ≡ filter p (map f (map g (take i xs))) ++ cond b (f (g x) ∷ []) []
within-more {A} {B} {C} f g p xs i x b h is t =
    let before = map f (map g (take i xs)) in
    ap (λ (ys : List B). filter p (map f ys)) (names-more g xs i x h is)
    ∙ ap (filter p) (map-append f (map g (take i xs)) (g x ∷ []))
    ∙ filter-append p before (f (g x) ∷ [])
    ∙ ap (λ (z : Bool). filter p before ++ cond z (f (g x) ∷ []) []) t

-- the item is selected, and what is made of it is added to the earlier results
pub added-some : {A B C D E : Type 0} (f : B → C) (g : A → B) (p : C → Bool) (h : C → E) (s : D → E)
    (xs : List A) (i : ℕ) (x : A) (first : List E) (old new : List D) (d : D)
    → i < length xs → x ≡ get_or xs i x → p (f (g x)) ≡ true
    → map s old ≡ first ++ map h (filter p (map f (map g (take i xs)))) → new ≡ old ++ d ∷ []
    → s d ≡ h (f (g x))
    → map s new ≡ first ++ map h (filter p (map f (map g (take (i + 1) xs))))
added-some {A} {B} {C} {D} {E} f g p h s xs i x first old new d low is t e n one =
    let before = filter p (map f (map g (take i xs))) in
    ap (map s) n ∙ map-append s old (d ∷ []) ∙ ap (λ (ys : List E). ys ++ s d ∷ []) e
    ∙ ap (λ (y : E). (first ++ map h before) ++ y ∷ []) one
    ∙ append_assoc first (map h before) (h (f (g x)) ∷ [])
    ∙ ap (λ (ys : List E). first ++ ys)
    (sym (ap (map h) (within-more f g p xs i x true low is t) ∙ map-append h before (f (g x) ∷ [])))

-- the item is not selected, and nothing is added
pub added-none : {A B C D E : Type 0} (f : B → C) (g : A → B) (p : C → Bool) (h : C → E) (s : D → E)
    (xs : List A) (i : ℕ) (x : A) (first : List E) (old new : List D)
    → i < length xs → x ≡ get_or xs i x → p (f (g x)) ≡ false
    → map s old ≡ first ++ map h (filter p (map f (map g (take i xs)))) → new ≡ old
    → map s new ≡ first ++ map h (filter p (map f (map g (take (i + 1) xs))))
added-none {A} {B} {C} {D} {E} f g p h s xs i x first old new low is t e n =
    ap (map s) n ∙ e ∙ ap (λ (ys : List C). first ++ map h ys)
    (sym (within-more f g p xs i x false low is t ∙ append-nil (filter p (map f (map g (take i xs))))))
