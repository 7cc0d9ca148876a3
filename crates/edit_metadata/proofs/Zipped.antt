-- Relations between two lists, element by element.
use Rattle.std.proofs.Common.{◌≡◌, ℕ, zero, suc, ◌+◌, ◌<◌, List, [], ◌∷◌, ◌++◌, length, map, take, get_or, arith, refl, ap, sym, ◌∙◌, subst}
use Rattle.std.specs.List.{AllZip}
use Rattle.std.proofs.lemmas.List.{map_more}
use Rattle.std.proofs.lemmas.Slice.Zip.{all_zipped_more}

none-at : {X A B : Type 0} (f : X → A) (R : A → B → Type 0) (xs : List X) (i : ℕ) (d : X) → i < length xs
    → ((y : B) → R (f (get_or xs i d)) y → ⊥) → (ys : List B) → AllZip R (map f xs) ys → ⊥
none-at f R [] i d within none ys all = absurd (omega arith)
none-at f R (x ∷ xs) i d within none [] all = absurd all
none-at f R (x ∷ xs) zero d within none (y ∷ ys) all = none y all.0
none-at f R (x ∷ xs) (suc i) d within none (y ∷ ys) all = none-at f R xs i d (omega (arith, within)) none ys
    all.1

-- where one place fits nothing, the list fits no other
pub none-zipped : {X A B : Type 0} (f : X → A) (R : A → B → Type 0) (xs : List X) (i : ℕ) (x : X)
    → i < length xs → x ≡ get_or xs i x
    → ((y : B) → R (f x) y → ⊥) → (ys : List B) → AllZip R (map f xs) ys → ⊥
none-zipped f R xs i x within is none =
    none-at f R xs i x within (subst (λ z. (y : _) → R (f z) y → ⊥) is none)

-- one place more
pub zipped-more : {X A B : Type 0} (f : X → A) (R : A → B → Type 0) (xs : List X) (ys : List B) (i : ℕ)
    (x : X) (y : B) → i < length xs → x ≡ get_or xs i x
    → AllZip R (map f (take i xs)) ys → R (f x) y → AllZip R (map f (take (i + 1) xs)) (ys ++ y ∷ [])
zipped-more f R xs ys i x y within is all fits =
    subst (λ zs. AllZip R zs (ys ++ y ∷ [])) (sym (map_more f xs i x within
    ∙ ap (λ z. map f (take i xs) ++ f z ∷ []) (sym is)))
    (all_zipped_more R (map f (take i xs)) ys (f x) y all fits)

-- another relation that holds where the first does
pub zipped-as : {A B : Type 0} (R S : A → B → Type 0) (xs : List A) (ys : List B)
    → ((x : A) (y : B) → R x y → S x y) → AllZip R xs ys → AllZip S xs ys
zipped-as R S [] [] other all = all
zipped-as R S [] (y ∷ ys) other all = absurd all
zipped-as R S (x ∷ xs) [] other all = absurd all
zipped-as R S (x ∷ xs) (y ∷ ys) other all = (other x y all.0, zipped-as R S xs ys other all.1)

-- where each place fits one value alone, the list fits one list alone
pub zipped-once : {A B : Type 0} (R : A → B → Type 0) (xs : List A) (ys zs : List B)
    → ((x : A) (y z : B) → R x y → R x z → y ≡ z)
    → AllZip R xs ys → AllZip R xs zs → ys ≡ zs
zipped-once R [] [] [] once a b = refl
zipped-once R [] (y ∷ ys) zs once a b = absurd a
zipped-once R [] [] (z ∷ zs) once a b = absurd b
zipped-once R (x ∷ xs) [] zs once a b = absurd a
zipped-once R (x ∷ xs) (y ∷ ys) [] once a b = absurd b
zipped-once R (x ∷ xs) (y ∷ ys) (z ∷ zs) once a b =
    ap (λ v. v ∷ ys) (once x y z a.0 b.0) ∙ ap (λ vs. z ∷ vs) (zipped-once R xs ys zs once a.1 b.1)

-- a list that fits one with a place more has a place more
pub zipped-last : {A B : Type 0} (R : A → B → Type 0) (xs : List A) (ys : List B) (y : B)
    → AllZip R xs (ys ++ y ∷ [])
    → (front : List A) × (x : A) × (xs ≡ front ++ x ∷ []) × AllZip R front ys × R x y
zipped-last R [] [] y all = absurd all
zipped-last R [] (z ∷ ys) y all = absurd all
zipped-last R (x ∷ []) [] y all = ([], x, refl, tt, all.0)
zipped-last R (x ∷ z ∷ xs) [] y all = absurd all.1
zipped-last R (x ∷ xs) (z ∷ ys) y all =
    let rest = zipped-last R xs ys y all.1 in
    (x ∷ rest.0, rest.1, ap (λ zs. x ∷ zs) rest.2, (all.0, rest.3), rest.4)

-- a list that fits none is empty, and fits none under another relation
pub zipped-none : {A B C : Type 0} (R : A → B → Type 0) (S : A → C → Type 0) (xs : List A) → AllZip R xs []
    → AllZip S xs []
zipped-none R S [] all = tt
zipped-none R S (x ∷ xs) all = absurd all
