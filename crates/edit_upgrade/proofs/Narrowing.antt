-- A compatible change narrows, and each change admits the version that it was made for.
use Rattle.std.proofs.Common.{◌≡◌, List, ℕ, Option, Some, None, true, false, length, refl, ap, ◌∙◌, sym, subst}
use Rattle.std.specs.Prelude.{All, is_ok, nat_eq}
use Rattle.std.specs.Cmp.Lexicographic.{nat_list_eq_equiv, pointwise}
use Rattle.std.specs.Ordering.{is_le}
use Rattle.semver.specs.Grammar.{IsValid}
use Rattle.semver.specs.Parse.{Parts, req_of}
use Rattle.edit_version.specs.Laws.{Admits, IsNarrower}
use Rattle.edit_version.specs.Requirement.{Nothing, UpgradeResult, Text, Unread, Unsupported, plain_text, upgrade_of}
use Rattle.edit_version.specs.Selection.{IsCompatible, IsLatest, is_admitted, is_offered}
use Rattle.edit_version.specs.VersionOrder.{full_order}
use Rattle.edit_version.proofs.Greatests.{wider, wider-found}
use Rattle.edit_version.proofs.Lands.{Lands, outcome-lands, plain-lands}
use Rattle.edit_version.proofs.Offers.{admitted-offered}
use Rattle.edit_version.proofs.Orders.{full_total, greatest-has}
use Rattle.edit_version.proofs.Outcomes.{admitted, narrower-of, text-outcome, valid-version}
use Rattle.edit_upgrade.specs.Decision.{Case, compatible_text, decision, is_set_aside, is_too_low, latest_text, may_jump, newer, text_or, unless, some_if}
use Rattle.edit_report.specs.declared.row.Change.TheVariants as change
use Rattle.edit_upgrade.specs.declared.decision.options.Options.{Options}
use Rattle.edit_upgrade.proofs.TakenVersions.{compatible-taken, far-some, far_text, latest-taken, near-some, newer-latest, unless-some, some_if-some}

-- the requirement that the compatible version was written into narrows the old one
narrow-of : (xs : List Parts) (old t : List ℕ) (u : Parts) (r : UpgradeResult) → All IsValid xs
    → IsCompatible old xs (Some u)
    → upgrade_of old u ≡ r → text_or old r ≡ Some t → pointwise nat_eq t old ≡ false → IsNarrower old t u
narrow-of xs old t u Unread all near e h other = cc h
narrow-of xs old t u Nothing all near e h other = cc h
narrow-of xs old t u (Unsupported d) all near e h other =
    let same : old ≡ t = cc h in
    let self = nat_list_eq_equiv.refl t in
    cc (sym self ∙ ap (λ (x : List ℕ). pointwise nat_eq t x) (sym same) ∙ other)
narrow-of xs old t u (Text s) all near e h other =
    let same : s ≡ t = cc h in
    narrower-of old u t (valid-version u (greatest-has IsValid (is_admitted old) xs u all near))
    (text-outcome old u t (e ∙ ap Text same))
    (admitted old u near.qualifies)

-- a compatible change: the new text admits the compatible version, and nothing that the old one does not
pub narrowing : (o : Options) (xs : List Parts) (c : Case) → All IsValid xs
    → IsCompatible c.old xs c.compatible
    → (decision o c).change ≡ Some change.Compatible
    → (u : Parts) × (c.compatible ≡ Some u) × IsNarrower c.old (decision o c).new u
narrowing o xs c all iscomp h =
    let k = compatible-taken c.old c.excluded (unless (is_set_aside o c) c.selected) (is_ok (req_of c.old))
    (some_if (may_jump o c) (latest_text c))
    (some_if o.compatible (compatible_text c)) h in
    let n = near-some o c.old k.0 c.compatible k.1 in
    let near = subst (λ (x : Option Parts). IsCompatible c.old xs x) n.1 iscomp in (
      n.0,
      n.1,
      subst (λ (x : List ℕ). IsNarrower c.old x n.0) (sym k.2)
          (narrow-of xs c.old k.0 n.0 (upgrade_of c.old n.0) all near refl n.2 k.3),
    )

-- the text that a version of the offered ones is written into
latest-read : (old : List ℕ) (v : Parts) (t : List ℕ) (r : UpgradeResult) → IsValid v
    → is_offered old v ≡ true
    → upgrade_of old v ≡ r
    → text_or (plain_text v) r ≡ Some t → Lands v t
latest-read old v t Unread valid offered e h = cc h
latest-read old v t Nothing valid offered e h = cc h
latest-read old v t (Unsupported d) valid offered e h =
    let same : plain_text v ≡ t = cc h in
    subst (λ (x : List ℕ). Lands v x) same (plain-lands v valid)
latest-read old v t (Text s) valid offered e h =
    let same : s ≡ t = cc h in
    subst (λ (x : List ℕ). Lands v x) same (outcome-lands old v s valid offered (text-outcome old v s e))

-- the same, from what raising gives
pub latest-lands : (old : List ℕ) (v : Parts) (t : List ℕ) → IsValid v → is_offered old v ≡ true
    → text_or (plain_text v) (upgrade_of old v) ≡ Some t → Lands v t
latest-lands old v t valid offered h = latest-read old v t (upgrade_of old v) valid offered refl h

-- a change to the latest version: the new text admits it, if it has no pre-release
pub reach : (o : Options) (xs : List Parts) (c : Case) → All IsValid xs → IsLatest c.old xs c.latest
    → (decision o c).change ≡ Some change.Latest
    → (v : Parts) × IsValid v × (newer c.latest c.compatible ≡ Some v)
    × (length v.3 ≡ 0 → Admits (decision o c).new v)
reach o xs c all islatest h =
    let k = latest-taken c.old c.excluded (unless (is_set_aside o c) c.selected) (is_ok (req_of c.old))
    (some_if (may_jump o c) (latest_text c))
    (some_if o.compatible (compatible_text c)) h in
    let u = unless-some (is_too_low c.never_lower c.old (newer c.latest c.compatible))
    (far_text c.old c.latest c.compatible) k.0
    (some_if-some (may_jump o c) (latest_text c) k.0 k.1) in
    let f = far-some c.old k.0 c.latest c.compatible u.1 in
    let far = subst (λ (x : Option Parts). IsLatest c.old xs x)
    (newer-latest c.latest c.compatible f.0 f.1) islatest in
    let valid = greatest-has IsValid (is_offered c.old) xs f.0 all far in
    let l = latest-lands c.old f.0 k.0 valid far.qualifies f.2 in
    (f.0, valid, f.1, λ plain. subst (λ (x : List ℕ). Admits x f.0) (sym k.2) (l.reached plain))

-- where there is a compatible version, there is a latest one that is not less
pub latest-not-less : (xs : List Parts) (old : List ℕ) (u : Parts) (far : Option Parts)
    → IsCompatible old xs (Some u) → IsLatest old xs far
    → (v : Parts) × (far ≡ Some v) × (is_le (full_order u v) ≡ true)
latest-not-less xs old u None near far =
    absurd (wider-found (is_admitted old) (is_offered old) full_order
    (λ x k. admitted-offered old x k) xs u near far)
latest-not-less xs old u (Some v) near far = (
  v,
  refl,
  wider (is_admitted old) (is_offered old) full_order full_total
      (λ x k. admitted-offered old x k) xs u v near far,
)
