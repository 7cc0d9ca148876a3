-- A text is split at the first occurrence of a byte.
use Rattle.std.proofs.Common.{◌≡◌, ◌≢◌, ℕ, zero, suc, ◌<◌, List, [], ◌∷◌, ◌++◌, take, refl, ap, ◌∙◌, subst, sym, arith, length-append, eqb}
use Rattle.std.proofs.lemmas.List.{take-append-drop, get_or_append_left}
use Rattle.std.proofs.lemmas.Str.Pattern.{NoCharPasses-char, drop_at_char}
use Rattle.std.specs.Str.{NoCharPasses}
use Rattle.std.specs.Str.Pattern.{SplitsAroundMatch, FindsChar}
use Rattle.edit_lookups.specs.Lookups.{HasNo}

-- a byte occurs in a text where it was written
pub HasNo-at : (c : ℕ) (xs ys : List ℕ) → HasNo c (xs ++ c ∷ ys) → ⊥
HasNo-at c [] ys h = h 0 (omega arith) refl
HasNo-at c (x ∷ xs) ys h = HasNo-at c xs ys (λ i w. h (suc i) (omega arith))

pub HasNo-tail : (c x : ℕ) (xs : List ℕ) → HasNo c (x ∷ xs) → HasNo c xs
HasNo-tail c x xs h i w = h (suc i) (omega arith)

pub HasNo-left : (c : ℕ) (xs ys : List ℕ) → HasNo c (xs ++ ys) → HasNo c xs
HasNo-left c xs ys h i w is = h i (omega (arith, length-append xs ys)) (get_or_append_left xs ys 0 i w ∙ is)

pub HasNo-right : (c : ℕ) (xs ys : List ℕ) → HasNo c (xs ++ ys) → HasNo c ys
HasNo-right c [] ys h = h
HasNo-right c (x ∷ xs) ys h = HasNo-right c xs ys (HasNo-tail c x (xs ++ ys) h)

pub HasNo-cons : (c x : ℕ) (xs : List ℕ) → x ≢ c → HasNo c xs → HasNo c (x ∷ xs)
HasNo-cons c x xs n h zero w = n
HasNo-cons c x xs n h (suc i) w = h i (omega arith)

pub HasNo-append : (c : ℕ) (xs ys : List ℕ) → HasNo c xs → HasNo c ys → HasNo c (xs ++ ys)
HasNo-append c [] ys hx hy = hy
HasNo-append c (x ∷ xs) ys hx hy =
    HasNo-cons c x (xs ++ ys) (hx 0 (omega arith)) (HasNo-append c xs ys (HasNo-tail c x xs hx) hy)

-- a text has one first cut at a byte
pub first-cut : (c : ℕ) (xs ys us vs : List ℕ) → HasNo c xs → HasNo c us
    → xs ++ c ∷ ys ≡ us ++ c ∷ vs → (xs ≡ us) × (ys ≡ vs)
first-cut c [] ys [] vs hx hu e = (refl, cc)
first-cut c [] ys (u ∷ us) vs hx hu e = absurd (hu 0 (omega arith) cc)
first-cut c (x ∷ xs) ys [] vs hx hu e = absurd (hx 0 (omega arith) cc)
first-cut c (x ∷ xs) ys (u ∷ us) vs hx hu e =
    let tails : xs ++ c ∷ ys ≡ us ++ c ∷ vs = cc in
    let r = first-cut c xs ys us vs (HasNo-tail c x xs hx) (HasNo-tail c u us hu) tails in
    let heads : x ≡ u = cc in
    (ap (λ z. z ∷ xs) heads ∙ ap (λ z. u ∷ z) r.0, r.1)

-- what `split_once` gives at a byte of ASCII
pub cut-whole : (c : ℕ) (s before after : List ℕ) → SplitsAroundMatch (FindsChar c) s before after → c < 128
    → s ≡ before ++ c ∷ after
cut-whole c s before after h small =
    let whole = take-append-drop h.0 s in
    let rest = drop_at_char c s h.0 h.1 h.2.1 small in
    cc

pub cut-first : (c : ℕ) (s before after : List ℕ) → SplitsAroundMatch (FindsChar c) s before after → c < 128
    → HasNo c before
cut-first c s before after h small = subst (HasNo c) (sym h.3)
    (λ i w. NoCharPasses-char c (take h.0 s) i h.2.0 small w)

pub cut-none : (c : ℕ) (s : List ℕ) → NoCharPasses (λ d. eqb d c) s → c < 128 → HasNo c s
cut-none c s h small i w = NoCharPasses-char c s i h small w
