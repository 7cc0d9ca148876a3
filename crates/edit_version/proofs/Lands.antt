-- The version that a requirement was upgraded to is selected again among the same versions.
use Rattle.std.proofs.Common.{◌≡◌, ◌<◌, ◌∷◌, [], List, ℕ, Ok, Some, true, false, length, refl, ap, ◌∙◌, sym, subst, arith, inl, inr}
use Rattle.std.specs.Prelude.{All, Result}
use Rattle.std.specs.Ordering.{is_ge}
use Rattle.std.proofs.lemmas.List.Elements.{All-cons, All-nil}
use Rattle.semver.specs.Grammar.{IsValid}
use Rattle.semver.specs.Parse.{Held, Parts, req_of}
use Rattle.semver.specs.declared.error.Error as semver_error
use Rattle.semver.specs.declared.Op.TheVariants as op
use Rattle.edit_version.specs.Greatest.{IsGreatestItem}
use Rattle.edit_version.specs.Laws.{Admits, HasThreeNumbers, IsNarrower, holds_dash, precedence}
use Rattle.edit_version.specs.Requirement.{Nothing, plain_text, upgrade_of}
use Rattle.edit_version.specs.Selection.{is_admitted, is_offered}
use Rattle.edit_version.specs.VersionOrder.{full_order}
use Rattle.edit_version.proofs.Cuts.{plain_text-plain}
use Rattle.edit_version.proofs.Greatests.{wider}
use Rattle.edit_version.proofs.Offers.{admitted-offered, dash-offered, offered-dash, offered-plain, plain-offered, release-or}
use Rattle.edit_version.proofs.Orders.{SameVersion, fewer, full_total, greatest-same, squeezed}
use Rattle.edit_version.proofs.Outcomes.{IsOutcome, admitted, form-of, is_admitted-true, no_lower-of, nothing-outcome, reach-of, release-no_dash, settled-of, valid-version}
use Rattle.edit_version.proofs.PreReleases.{admits-dash}

-- ---- a text that a version was written into

-- what holds of such a text (own)
pub record Lands (v : Parts) (t : List ℕ) : Type 0 where
  pub fixed : upgrade_of t v ≡ Nothing
  pub plain : length v.3 ≡ 0 → holds_dash t ≡ false
  pub dashed : 0 < length v.3 → holds_dash t ≡ true
  pub reached : length v.3 ≡ 0 → Admits t v
  pub least : 0 < length v.3 → (w : Parts) → Admits t w → is_ge (precedence w v) ≡ true

-- an outcome of raising, where the version was offered
pub outcome-lands : (old : List ℕ) (v : Parts) (t : List ℕ) → IsValid v → is_offered old v ≡ true
    → IsOutcome old v t → Lands v t
outcome-lands old v t valid offered h =
    let w = valid-version v valid in
    record {
      fixed = (settled-of old v t w h).1;
      plain = release-no_dash old v t w h;
      dashed = λ some. ((form-of old v t w h).1 (dash-offered old v offered some)).1 some;
      reached = λ none. reach-of old v t w h (inl none);
      least = λ some u a. no_lower-of old v t w h (dash-offered old v offered some) some u a;
    }

-- the version's own text admits it
pub plain-admits : (v : Parts) → IsValid v → Admits (plain_text v) v
plain-admits v valid =
    let p = plain_text-plain v valid in
    let three : All HasThreeNumbers ((op.Caret, v.0, Some v.1, Some v.2, v.3) ∷ []) =
    All-cons HasThreeNumbers (op.Caret, v.0, Some v.1, Some v.2, v.3) [] (refl, refl)
    (All-nil HasThreeNumbers) in
    reach-of (plain_text v) v (plain_text v) (valid-version v valid) (nothing-outcome (plain_text v) v p.1)
    (inr ((op.Caret, v.0, Some v.1, Some v.2, v.3) ∷ [], p.0, omega arith, three))

-- the version's own text
pub plain-lands : (v : Parts) → IsValid v → Lands v (plain_text v)
plain-lands v valid =
    let w = valid-version v valid in
    let fixed = (plain_text-plain v valid).1 in
    let h = nothing-outcome (plain_text v) v fixed in
    let a = plain-admits v valid in
    record {
      fixed = fixed;
      plain = release-no_dash (plain_text v) v (plain_text v) w h;
      dashed = λ some. admits-dash (plain_text v) v a some;
      reached = λ none. a;
      least = λ some u b. no_lower-of (plain_text v) v (plain_text v) w h
          (admits-dash (plain_text v) v a some) some u b;
    }

-- ---- the second time

-- after the latest version was written, it is the latest again
pub latest-again : (xs : List Parts) (old t : List ℕ) (v : Parts) → Lands v t
    → IsGreatestItem (is_offered old) full_order xs v
    → IsGreatestItem (is_offered t) full_order xs v
latest-again xs old t v l h = elim (release-or v) [
  | inl plain ↦
      let none = l.plain plain in
      fewer (is_offered t) (is_offered old) (λ x k. offered-plain old x (plain-offered t x k none)) xs v h
      (offered-plain t v plain)
  | inr some ↦
      let dash = dash-offered old v h.qualifies some in
      fewer (is_offered t) (is_offered old) (λ x k. offered-dash old x dash) xs v h
      (offered-dash t v (l.dashed some))
]

-- a version that the new text admits is the written one, but for build metadata
pub near-is : (xs : List Parts) (t : List ℕ) (v u : Parts) → Lands v t
    → IsGreatestItem (is_offered t) full_order xs v
    → IsGreatestItem (is_admitted t) full_order xs u → SameVersion u v
near-is xs t v u l far near = elim (release-or v) [
  | inl plain ↦
      let mine = fewer (is_admitted t) (is_offered t) (λ x k. admitted-offered t x k) xs v far
      (is_admitted-true t v (l.reached plain)) in
      let same : Some u ≡ Some v = greatest-same (is_admitted t) xs (Some u) (Some v) near mine in
      let e : u ≡ v = cc same in
      subst (λ (x : Parts). SameVersion u x) e (refl, refl, refl, refl)
  | inr some ↦
      squeezed u v (wider (is_admitted t) (is_offered t) full_order full_total
      (λ x k. admitted-offered t x k) xs u v near far)
      (l.least some u (admitted t u near.qualifies))
]

-- what `semver` reads of the version's own text
abbrev as_caret : Parts → Held
as_caret v = (op.Caret, v.0, Some v.1, Some v.2, v.3)

abbrev caret_read : Parts → Result (List Held) semver_error.Error
caret_read v = Ok (as_caret v ∷ [])

held-parts : (u v : Parts) → caret_read v ≡ caret_read u → SameVersion v u
held-parts u v h =
    let e : as_caret v ≡ as_caret u = cc h in
    let minor : Some v.1 ≡ Some u.1 = ap (λ (c : Held). c.2) e in
    let patch : Some v.2 ≡ Some u.2 = ap (λ (c : Held). c.3) e in
    (ap (λ (c : Held). c.1) e, cc minor, cc patch, ap (λ (c : Held). c.4) e)

-- two versions of one text differ in build metadata alone
pub plain_text-parts : (u v : Parts) → IsValid u → IsValid v → plain_text v ≡ plain_text u → SameVersion v u
plain_text-parts u v a b e =
    let p = (plain_text-plain v b).0 in
    let q = (plain_text-plain u a).0 in
    held-parts u v (sym p ∙ ap (λ (x : List ℕ). req_of x) e ∙ q)

-- after the compatible version was written, it is compatible again
pub near-again : (xs : List Parts) (old t : List ℕ) (u : Parts) → IsNarrower old t u
    → IsGreatestItem (is_admitted old) full_order xs u
    → IsGreatestItem (is_admitted t) full_order xs u
near-again xs old t u n h =
    fewer (is_admitted t) (is_admitted old) (λ x k. is_admitted-true old x (n.1 x (admitted t x k))) xs u h
    (is_admitted-true t u n.0)
