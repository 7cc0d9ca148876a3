-- Equality tests of bytes, steps and places, and the test of a place below another.
use Rattle.std.proofs.Common.{◌≡◌, ℕ, true, false, ◌&&◌, List, [], ◌∷◌, ◌++◌, map, refl, sym, ap₂, ◌∙◌, ◌⊎◌, inl, inr, ⊎_elim, true≢false}
use Rattle.std.proofs.lemmas.Bool.{and_parts, and_from}
use Rattle.edit_tree.specs.Assertions.{Place, Step, key, at, same_step, named}
use Rattle.edit_tree.specs.EditBytes.{is_within}
use Rattle.edit_tree.specs.Replaces.{is_below}
use Rattle.edit_syntax.proofs.Cases.{by_test}
use Rattle.edit_tree.proofs.SamePlace.{same_step_is, same_step_self}

-- ---- below

pub within_same : (p : Place) → is_within p p ≡ true
within_same [] = refl
within_same (s ∷ ss) = and_from (same_step s s) (is_within ss ss) (same_step_self s) (within_same ss)

-- a step from the place or from below it leads below it
pub below_at : (target p : Place) (s : Step) → is_within target p ≡ true → is_below target (at p s) ≡ true
below_at [] [] s e = refl
below_at [] (t ∷ ts) s e = refl
below_at (u ∷ us) [] s e = absurd cc
below_at (u ∷ us) (t ∷ ts) s e =
    let h = and_parts (same_step u t) (is_within us ts) e in
    and_from (same_step u t) (is_below us (at ts s)) h.0 (below_at us ts s h.1)

pub within_more : (target p q : Place) → is_within target p ≡ true → is_within target (p ++ q) ≡ true
within_more [] p q e = refl
within_more (u ∷ us) [] q e = absurd cc
within_more (u ∷ us) (t ∷ ts) q e =
    let h = and_parts (same_step u t) (is_within us ts) e in
    and_from (same_step u t) (is_within us (ts ++ q)) h.0 (within_more us ts q h.1)

pub within_at : (target p : Place) (s : Step) → is_within target p ≡ true → is_within target (at p s) ≡ true
within_at target p s e = within_more target p (s ∷ []) e

pub within_named : (target p : Place) (ns : List (List ℕ)) → is_within target p ≡ true
    → is_within target (named p ns) ≡ true
within_named target p ns e = within_more target p (map key ns) e

pub not_below_itself : (p : Place) → is_below p p ≡ false
not_below_itself [] = refl
not_below_itself (s ∷ ss) = by_test (same_step s s && is_below ss ss)
    (λ e. absurd (true≢false (sym (and_parts (same_step s s) (is_below ss ss) e).1 ∙ not_below_itself ss)))
    (λ e. e)

pub below_within : (target p : Place) → is_below target p ≡ true → is_within target p ≡ true
below_within [] p e = refl
below_within (s ∷ ss) [] e = absurd cc
below_within (s ∷ ss) (t ∷ ts) e =
    let h = and_parts (same_step s t) (is_below ss ts) e in
    and_from (same_step s t) (is_within ss ts) h.0 (below_within ss ts h.1)

-- within is the same or below
pub within_cases : (target p : Place) → is_within target p ≡ true → (target ≡ p) ⊎ (is_below target p ≡ true)
within_cases [] [] e = inl refl
within_cases [] (t ∷ ts) e = inr refl
within_cases (s ∷ ss) [] e = absurd cc
within_cases (s ∷ ss) (t ∷ ts) e =
    let h = and_parts (same_step s t) (is_within ss ts) e in
    ⊎_elim (λ q. inl (ap₂ (λ x xs. x ∷ xs) (same_step_is s t h.0) q))
    (λ q. inr (and_from (same_step s t) (is_below ss ts) h.0 q)) (within_cases ss ts h.1)
