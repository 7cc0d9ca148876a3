-- Membership in lists.
use Rattle.std.proofs.Common.{◌≡◌, ℕ, zero, suc, ◌<◌, List, [], ◌∷◌, ◌++◌, map, length, get_or, Option, None, Some, refl, sym, ap, ◌∙◌, subst, ◌⊎◌, inl, inr, ⊎_elim, arith}
use Rattle.std.specs.List.{AllByRecursion, Contains, filter_map, cons_option}

abbrev pub Among : {X : Type 0} → X → List X → Type 0
Among x [] = ⊥
Among x (y ∷ ys) = (x ≡ y) ⊎ Among x ys

pub among_contained : {X : Type 0} (x : X) (xs : List X) → Among x xs → Contains xs x
among_contained x [] m = absurd m
among_contained x (y ∷ ys) (inl e) = (0, omega arith, sym e)
among_contained x (y ∷ ys) (inr m) = let r = among_contained x ys m in (suc r.0, omega (arith, r.1), r.2)

at_among : {X : Type 0} (x : X) (xs : List X) (k : ℕ) → k < length xs → get_or xs k x ≡ x → Among x xs
at_among x [] k h e = absurd (omega arith)
at_among x (y ∷ ys) zero h e = inl (sym e)
at_among x (y ∷ ys) (suc k) h e = inr (at_among x ys k (omega arith) e)

pub contained_among : {X : Type 0} (x : X) (xs : List X) → Contains xs x → Among x xs
contained_among x xs c = at_among x xs c.0 c.1 c.2

pub among_all : {X : Type 0} (P : X → Type 0) (x : X) (xs : List X) → AllByRecursion P xs → Among x xs → P x
among_all P x [] all m = absurd m
among_all P x (y ∷ ys) all (inl e) = subst P (sym e) all.0
among_all P x (y ∷ ys) all (inr m) = among_all P x ys all.1 m

pub among_append : {X : Type 0} (x : X) (xs ys : List X) → Among x (xs ++ ys) → Among x xs ⊎ Among x ys
among_append x [] ys m = inr m
among_append x (z ∷ xs) ys (inl e) = inl (inl e)
among_append x (z ∷ xs) ys (inr m) = ⊎_elim (λ l. inl (inr l)) (λ r. inr r) (among_append x xs ys m)

pub among_map : {X Y : Type 0} (f : X → Y) (x : X) (xs : List X) → Among x xs → Among (f x) (map f xs)
among_map f x [] m = m
among_map f x (y ∷ ys) (inl e) = inl (ap f e)
among_map f x (y ∷ ys) (inr m) = inr (among_map f x ys m)

pub map_among : {X Y : Type 0} (f : X → Y) (y : Y) (xs : List X) → Among y (map f xs) → (x : X) × Among x xs
    × (y ≡ f x)
map_among f y [] m = absurd m
map_among f y (x ∷ xs) (inl e) = (x, inl refl, e)
map_among f y (x ∷ xs) (inr m) = let r = map_among f y xs m in (r.0, inr r.1, r.2)

cons_among : {Y : Type 0} (y : Y) (o : Option Y) (ys : List Y) → (o ≡ Some y) ⊎ Among y ys
    → Among y (cons_option o ys)
cons_among y None ys (inl e) = absurd cc
cons_among y None ys (inr m) = m
cons_among y (Some z) ys (inl e) = let is : z ≡ y = cc in inl (sym is)
cons_among y (Some z) ys (inr m) = inr m

among_cons : {Y : Type 0} (y : Y) (o : Option Y) (ys : List Y) → Among y (cons_option o ys) → (o ≡ Some y)
    ⊎ Among y ys
among_cons y None ys m = inr m
among_cons y (Some z) ys (inl e) = inl (ap Some (sym e))
among_cons y (Some z) ys (inr m) = inr m

pub among_filter : {X Y : Type 0} (f : X → Option Y) (x : X) (y : Y) (xs : List X) → Among x xs → f x ≡ Some y
    → Among y (filter_map f xs)
among_filter f x y [] m e = absurd m
among_filter f x y (z ∷ xs) (inl h) e = cons_among y (f z) (filter_map f xs) (inl (ap f (sym h) ∙ e))
among_filter f x y (z ∷ xs) (inr m) e = cons_among y (f z) (filter_map f xs) (inr (among_filter f x y xs m e))

pub filter_among : {X Y : Type 0} (f : X → Option Y) (y : Y) (xs : List X) → Among y (filter_map f xs)
    → (x : X) × Among x xs × (f x ≡ Some y)
filter_among f y [] m = absurd m
filter_among f y (x ∷ xs) m =
    ⊎_elim (λ e. (x, inl refl, e)) (λ more. let r = filter_among f y xs more in
    (r.0, inr r.1, r.2)) (among_cons y (f x) (filter_map f xs) m)
