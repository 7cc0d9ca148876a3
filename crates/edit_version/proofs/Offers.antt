-- Which versions are allowed besides those that a requirement matches.
use Rattle.std.proofs.Common.{◌≡◌, ◌<◌, List, ℕ, Bool, true, false, length, refl, ◌∙◌, sym, arith, inl, inr, eqb-true}
use Rattle.std.specs.Prelude.{◌⊎◌, ◌==◌, ◌||◌, IsTrue}
use Rattle.std.proofs.lemmas.Bool.{cases_Bool, or_right}
use Rattle.semver.specs.Parse.{Parts}
use Rattle.semver.proofs.Segments.{not_zero}
use Rattle.edit_version.specs.Laws.{holds_dash}
use Rattle.edit_version.specs.Selection.{is_admitted, is_allowed, is_offered}
use Rattle.edit_version.proofs.Outcomes.{admitted}
use Rattle.edit_version.proofs.PreReleases.{admits-dash}

-- a version has no pre-release, or some
pub release-or : (v : Parts) → (length v.3 ≡ 0) ⊎ (0 < length v.3)
release-or v = elim (cases_Bool (length v.3 == 0)) [
  | inl none ↦ inl (eqb-true (length v.3) 0 none)
  | inr some ↦ inr (filled (length v.3) some)
]
  where
    filled : (n : ℕ) → (n == 0) ≡ false → 0 < n
    filled n h = grind arith

or-only : (x y : Bool) → (x || y) ≡ true → y ≡ false → x ≡ true
or-only true y h n = refl
or-only false y h n = cc (sym n ∙ h)

or-other : (x y : Bool) → (x || y) ≡ true → x ≡ false → y ≡ true
or-other true y h n = cc n
or-other false y h n = h

-- a version without a pre-release is allowed
pub allowed-plain : (pre : Bool) (v : Parts) → length v.3 ≡ 0 → is_allowed pre v ≡ true
allowed-plain pre v h = rw h refl

-- each version is, where pre-releases are
pub allowed-pre : (pre : Bool) (v : Parts) → pre ≡ true → is_allowed pre v ≡ true
allowed-pre pre v h = or_right _ _ h

pub offered-plain : (req : List ℕ) (v : Parts) → length v.3 ≡ 0 → is_offered req v ≡ true
offered-plain req v h = allowed-plain (holds_dash req) v h

pub offered-dash : (req : List ℕ) (v : Parts) → holds_dash req ≡ true → is_offered req v ≡ true
offered-dash req v h = allowed-pre (holds_dash req) v h

-- a pre-release is offered only where the requirement has a `-`
pub dash-offered : (req : List ℕ) (v : Parts) → is_offered req v ≡ true → 0 < length v.3
    → holds_dash req ≡ true
dash-offered req v h some = or-other _ _ h (not_zero (length v.3) some)

pub plain-offered : (req : List ℕ) (v : Parts) → is_offered req v ≡ true → holds_dash req ≡ false
    → length v.3 ≡ 0
plain-offered req v h none = eqb-true _ _ (or-only _ _ h none)

-- what a requirement admits is allowed, if pre-releases are where it has a `-`
pub admitted-allowed : (req : List ℕ) (pre : Bool) (v : Parts) → (IsTrue (holds_dash req) → IsTrue pre)
    → is_admitted req v ≡ true → is_allowed pre v ≡ true
admitted-allowed req pre v dash h = elim (release-or v) [
  | inl plain ↦ allowed-plain pre v plain
  | inr some ↦ allowed-pre pre v (dash (admits-dash req v (admitted req v h) some))
]

-- what a requirement admits is offered
pub admitted-offered : (req : List ℕ) (v : Parts) → is_admitted req v ≡ true → is_offered req v ≡ true
admitted-offered req v h = admitted-allowed req (holds_dash req) v (λ d. d) h
