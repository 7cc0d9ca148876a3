-- Two places are equal where their steps are.
use Rattle.std.proofs.Common.{◌≡◌, ℕ, Bool, true, false, eqb, List, [], ◌∷◌, refl, ap, ◌∙◌, ◌⊎◌, inl, inr, eq-eqb}
use Rattle.std.proofs.lemmas.Bool.{eqb-true, and_parts}
use Rattle.edit_tree.specs.Assertions.{Step, key, index, Place, at, same_bytes, same_step, same_place}

pub same_bytes_self : (a : List ℕ) → same_bytes a a ≡ true
same_bytes_self [] = refl
same_bytes_self (b ∷ bs) = rw (eq-eqb b b refl) (same_bytes_self bs)

pub same_bytes_is : (a b : List ℕ) → same_bytes a b ≡ true → a ≡ b
same_bytes_is [] [] e = refl
same_bytes_is [] (c ∷ cs) e = absurd cc
same_bytes_is (b ∷ bs) [] e = absurd cc
same_bytes_is (b ∷ bs) (c ∷ cs) e =
    let h = and_parts (eqb b c) (same_bytes bs cs) e in
    let x : b ≡ c = eqb-true _ _ h.0 in
    let y : bs ≡ cs = same_bytes_is bs cs h.1 in
    cc

pub same_step_self : (s : Step) → same_step s s ≡ true
same_step_self (key a) = same_bytes_self a
same_step_self (index i) = eq-eqb i i refl

pub same_step_is : (s t : Step) → same_step s t ≡ true → s ≡ t
same_step_is (key a) (key b) e = ap key (same_bytes_is a b e)
same_step_is (key a) (index j) e = absurd cc
same_step_is (index i) (key b) e = absurd cc
same_step_is (index i) (index j) e = ap index (eqb-true i j e)

pub same_place_self : (p : Place) → same_place p p ≡ true
same_place_self [] = refl
same_place_self (s ∷ ss) = rw (same_step_self s) (same_place_self ss)

pub same_place_is : (p q : Place) → same_place p q ≡ true → p ≡ q
same_place_is [] [] e = refl
same_place_is [] (t ∷ ts) e = absurd cc
same_place_is (s ∷ ss) [] e = absurd cc
same_place_is (s ∷ ss) (t ∷ ts) e =
    let h = and_parts (same_step s t) (same_place ss ts) e in
    let x : s ≡ t = same_step_is s t h.0 in
    let y : ss ≡ ts = same_place_is ss ts h.1 in
    cc

-- the test distinguishes different places
pub other_place : (p q : Place) → (p ≡ q → ⊥) → same_place p q ≡ false
other_place p q h = go (same_place p q) refl
  where
    go : (b : Bool) → same_place p q ≡ b → same_place p q ≡ false
    go true e = absurd (h (same_place_is p q e))
    go false e = e

pub last_same : (p q : Place) (s t : Step) → at p s ≡ at q t → (p ≡ q) × (s ≡ t)
last_same [] [] s t e = (refl, cc)
last_same [] (y ∷ []) s t e = absurd cc
last_same [] (y ∷ z ∷ q) s t e = absurd cc
last_same (x ∷ []) [] s t e = absurd cc
last_same (x ∷ w ∷ p) [] s t e = absurd cc
last_same (x ∷ p) (y ∷ q) s t e =
    let tails : at p s ≡ at q t = cc in
    let header_walk : x ≡ y = cc in
    let h = last_same p q s t tails in
    (ap (λ (r : Place). x ∷ r) h.0 ∙ ap (λ (a : Step). a ∷ q) header_walk, h.1)

pub not_root : (p : Place) (s : Step) → at p s ≡ [] → ⊥
not_root [] s e = cc
not_root (x ∷ p) s e = cc

-- a place is not the one below it
pub not_below : (p : Place) (s : Step) → at p s ≡ p → ⊥
not_below [] s e = cc
not_below (x ∷ p) s e = not_below p s (let t : at p s ≡ p = cc in t)

pub place_or : (p q : Place) → (p ≡ q) ⊎ (p ≡ q → ⊥)
place_or p q = go (same_place p q) refl
  where
    go : (b : Bool) → same_place p q ≡ b → (p ≡ q) ⊎ (p ≡ q → ⊥)
    go true e = inl (same_place_is p q e)
    go false e = inr (λ same. let t : same_place p q ≡ true = ap (λ (r : Place). same_place r q) same ∙
        same_place_self q in cc)
