-- The first element that passes a test, in a loop over the elements.
use Rattle.std.proofs.Common.{◌≡◌, ℕ, ◌+◌, ◌<◌, List, [], ◌∷◌, ◌++◌, Bool, true, false, cond, Option, Some, None, length, take, drop, get_or, refl, ap, sym, ◌∙◌}
use Rattle.std.specs.Prelude.{find}
use Rattle.std.proofs.lemmas.List.{drop_more, take-append-drop, take_more}

past : {X : Type 0} (b : Bool) (x : X) (o q r : Option X) → (o ≡ None → q ≡ r) → cond b (Some x) o ≡ None
    → cond b (Some x) q ≡ r
past true x o q r later none = cc none
past false x o q r later none = later none

-- elements that do not pass come first
find-past : {X : Type 0} (p : X → Bool) (xs ys : List X) → find p xs ≡ None → find p (xs ++ ys) ≡ find p ys
find-past p [] ys none = refl
find-past p (x ∷ xs) ys none = past (p x) x (find p xs) (find p (xs ++ ys)) (find p ys) (find-past p xs ys)
    none

-- one more that does not pass
pub find-none : {X : Type 0} (p : X → Bool) (xs : List X) (i : ℕ) (x : X) → i < length xs → x ≡ get_or xs i x
    → find p (take i xs) ≡ None → p x ≡ false
    → find p (take (i + 1) xs) ≡ None
find-none p xs i x within is none fails =
    ap (find p) (take_more xs i x within ∙ ap (λ y. take i xs ++ y ∷ []) (sym is))
    ∙ find-past p (take i xs) (x ∷ []) none ∙ ap (λ b. cond b (Some x) None) fails

-- the first one that passes
pub find-here : {X : Type 0} (p : X → Bool) (xs : List X) (i : ℕ) (x : X) → i < length xs → x ≡ get_or xs i x
    → find p (take i xs) ≡ None → p x ≡ true
    → find p xs ≡ Some x
find-here p xs i x within is none passes =
    ap (find p) (sym (take-append-drop i xs) ∙ ap (λ ys. take i xs ++ ys)
    (drop_more xs i x within ∙ ap (λ y. y ∷ drop (i + 1) xs) (sym is)))
    ∙ find-past p (take i xs) (x ∷ drop (i + 1) xs) none ∙ ap
    (λ b. cond b (Some x) (find p (drop (i + 1) xs))) passes
