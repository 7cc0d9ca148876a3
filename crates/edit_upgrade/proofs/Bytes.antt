-- Equal texts, as a test and as an equation.
use Rattle.std.proofs.Common.{◌≡◌, ◌≢◌, List, ℕ, Bool, true, false, refl, ap, ◌∙◌, sym, inl, inr, ◌⊎◌}
use Rattle.std.specs.Prelude.{◌&&◌}
use Rattle.std.specs.Cmp.Lexicographic.{nat_list_eq_equiv}
use Rattle.std.specs.Str.{bytes_eq}
use Rattle.std.proofs.lemmas.Bool.{cases_Bool}
use Rattle.semver.specs.OrderLaws.{same_text}

pub same-refl : (xs : List ℕ) → bytes_eq xs xs ≡ true
same-refl xs = nat_list_eq_equiv.refl xs

pub same-eq : (xs ys : List ℕ) → bytes_eq xs ys ≡ true → xs ≡ ys
same-eq xs ys h = same_text xs ys h

pub both-true : (a b : Bool) → (a && b) ≡ true → (a ≡ true) × (b ≡ true)
both-true true true h = (refl, refl)
both-true true false h = cc h
both-true false b h = cc h

-- two pairs of texts for which the test fails differ in one
pub apart : (a b m n : List ℕ) → (bytes_eq a b && bytes_eq m n) ≡ false → (b ≢ a) ⊎ (n ≢ m)
apart a b m n h = elim (cases_Bool (bytes_eq a b)) [
  | inl same ↦ inr (λ e. cc (sym (same-refl m) ∙ ap (bytes_eq m) (sym e) ∙ rest same))
  | inr other ↦ inl (λ e. cc (sym (same-refl a) ∙ ap (bytes_eq a) (sym e) ∙ other))
]
  where
    rest : bytes_eq a b ≡ true → bytes_eq m n ≡ false
    rest same = sym (ap (λ (x : Bool). x && bytes_eq m n) same) ∙ h

-- the test distinguishes texts that differ
pub apart-false : (xs ys : List ℕ) → xs ≢ ys → bytes_eq xs ys ≡ false
apart-false xs ys h = elim (cases_Bool (bytes_eq xs ys)) [
  | inl same ↦ absurd (h (same-eq xs ys same))
  | inr other ↦ other
]

pub same-swap : (xs ys : List ℕ) → bytes_eq xs ys ≡ bytes_eq ys xs
same-swap xs ys = elim (cases_Bool (bytes_eq xs ys)) [
  | inl same ↦ same ∙ sym (ap (bytes_eq ys) (same-eq xs ys same) ∙ same-refl ys)
  | inr other ↦ other ∙ sym
      (apart-false ys xs (λ e. cc (sym (same-refl ys) ∙ ap (λ (z : List ℕ). bytes_eq z ys) e ∙ other)))
]
