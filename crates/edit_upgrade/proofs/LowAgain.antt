-- A latest version that is too low for a requirement is too low for what it was raised to.
use Rattle.std.proofs.Common.{◌≡◌, ◌∷◌, ◌<◌, List, ℕ, Option, Some, None, Bool, true, false, length, map, refl, ap, ◌∙◌, sym, subst, inl, inr}
use Rattle.std.specs.Prelude.{All}
use Rattle.std.proofs.lemmas.Bool.{cases_Bool}
use Rattle.std.proofs.lemmas.List.{nil_from_length}
use Rattle.semver.specs.Grammar.{IsValid}
use Rattle.semver.specs.Parse.{Held, Parts}
use Rattle.edit_version.specs.Admits.{admits}
use Rattle.edit_version.specs.Greatest.{IsGreatestItem}
use Rattle.edit_version.specs.Requirement.{Text, upgrade_of, upgraded_comparator}
use Rattle.edit_version.specs.Selection.{IsLatest, is_admitted, is_offered}
use Rattle.edit_version.specs.VersionOrder.{full_order}
use Rattle.edit_version.proofs.ComparatorReadings.{tidy}
use Rattle.edit_version.proofs.FixedTexts.{IsRaised, raised-read, raised-reads}
use Rattle.edit_version.proofs.Lands.{outcome-lands}
use Rattle.edit_version.proofs.Narrows.{left_of}
use Rattle.edit_version.proofs.Offers.{admitted-offered, dash-offered, offered-dash, release-or}
use Rattle.edit_version.proofs.Orders.{fewer, greatest-has, greatest-same}
use Rattle.edit_version.proofs.Outcomes.{admitted, reads-same, text-outcome, valid-version}
use Rattle.edit_version.proofs.Shapes.{req-shape}
use Rattle.edit_upgrade.specs.Decision.{is_too_low, newer}
use Rattle.edit_version.specs.Floors.{is_below, one_begins_after}
use Rattle.edit_version.proofs.FloorLemmas.{later-not_after, none-after, plain-not_after}
use Rattle.edit_upgrade.proofs.NotLess.{not-less}
use Rattle.edit_upgrade.proofs.RaisedFloors.{admitted-rise}
use Rattle.edit_upgrade.proofs.Narrowing.{latest-not-less}
use Rattle.edit_upgrade.proofs.TakenVersions.{newer-latest}

-- what is below is a version
below-some : (old : List ℕ) (far : Option Parts) → is_below old far ≡ true
    → (v : Parts) × (far ≡ Some v) × (is_below old (Some v) ≡ true)
below-some old None h = cc h
below-some old (Some v) h = (v, refl, h)

-- one version is the other
some-is : (v w : Parts) → Some v ≡ Some w → v ≡ w
some-is v w h = cc h

-- where the compatible version has no pre-release, no later version is below the floor
plain-high : (xs : List Parts) (old : List ℕ) (u v : Parts) (c : Held) (cs : List Held) (t : List ℕ)
    → IsRaised old u t c cs
    → IsGreatestItem (is_admitted old) full_order xs u → IsGreatestItem (is_offered old) full_order xs v
    → length u.3 ≡ 0
    → one_begins_after (c ∷ cs) v ≡ false
plain-high xs old u v c cs t r near far plain =
    let shape = req-shape old (c ∷ cs) r.0 in
    let a = admitted old u near.qualifies in
    let all = subst (λ (x : List Held). admits x u ≡ true) (reads-same old a.0 (c ∷ cs) a.1 r.0) a.2 in
    let none = plain-not_after u (c ∷ cs) shape.0 r.1 (nil_from_length u.3 plain) (left_of _ _ all) in
    let l = latest-not-less xs old u (Some v) near far in
    let same = some-is v l.0 l.1 in
    subst (λ (x : Parts). one_begins_after (c ∷ cs) x ≡ false) (sym same)
    (later-not_after u l.0 (c ∷ cs) (not-less u l.0 l.2) none)

-- where it has one, the latest version is the same after the change
same-latest : (xs : List Parts) (old t : List ℕ) (u v : Parts) (far : Option Parts) → All IsValid xs
    → upgrade_of old u ≡ Text t
    → IsGreatestItem (is_admitted old) full_order xs u → IsGreatestItem (is_offered old) full_order xs v
    → 0 < length u.3
    → IsLatest t xs far → far ≡ Some v
same-latest xs old t u v far all upgraded_comparator near qualifies some isfar =
    let valid = greatest-has IsValid (is_admitted old) xs u all near in
    let offered = admitted-offered old u near.qualifies in
    let l = outcome-lands old u t valid offered (text-outcome old u t upgraded_comparator) in
    let dash = dash-offered old u offered some in
    let mine = fewer (is_offered t) (is_offered old) (λ x k. offered-dash old x dash) xs v qualifies
    (offered-dash t v (l.dashed some)) in
    greatest-same (is_offered t) xs far (Some v) isfar mine

-- the version is below what the requirement was raised to
below-again : (old t : List ℕ) (u v : Parts) (c : Held) (cs : List Held) → IsValid u
    → is_admitted old u ≡ true → IsRaised old u t c cs
    → one_begins_after (c ∷ cs) v ≡ true → is_below t (Some v) ≡ true
below-again old t u v c cs valid qualifies r low =
    let ds = map tidy (map (upgraded_comparator u) (c ∷ cs)) in
    let read = (raised-reads old u t c cs (valid-version u valid) r).0 in
    let below : one_begins_after ds v ≡ true = elim (cases_Bool (one_begins_after ds v)) [
      | inl there ↦ there
      | inr other ↦ cc (sym low ∙ none-after u v (c ∷ cs) r.1 (admitted-rise old u t c cs qualifies r) other)
    ] in
    rw read below

-- what was too low before a compatible change is too low after it
pub low-again : (m : Bool) (xs : List Parts) (old t : List ℕ) (u : Parts) (far0 far : Option Parts)
    → All IsValid xs → upgrade_of old u ≡ Text t
    → IsGreatestItem (is_admitted old) full_order xs u → IsLatest old xs far0
    → is_too_low m old (newer far0 (Some u)) ≡ true
    → IsLatest t xs far → is_too_low m t (newer far (Some u)) ≡ true
low-again false xs old t u far0 far all upgraded_comparator near islatest h isfar = cc h
low-again true xs old t u far0 far all upgraded_comparator near islatest h isfar =
    let b = below-some old (newer far0 (Some u)) h in
    let f : far0 ≡ Some b.0 = newer-latest far0 (Some u) b.0 b.1 in
    let qualifies = subst (λ (x : Option Parts). IsLatest old xs x) f islatest in
    let r = raised-read old u t upgraded_comparator in
    let low : one_begins_after (r.0 ∷ r.1) b.0 ≡ true = rw r.2.0 at b.2 in
    elim (release-or u) [
      | inl plain ↦ cc (sym low ∙ plain-high xs old u b.0 r.0 r.1 t r.2 near qualifies plain)
      | inr some ↦
          let valid = greatest-has IsValid (is_admitted old) xs u all near in
          let same = same-latest xs old t u b.0 far all upgraded_comparator near qualifies some isfar in
          let is : newer far (Some u) ≡ Some b.0 = ap (λ (x : Option Parts). newer x (Some u))
          (same ∙ sym f) ∙ b.1 in
          ap (λ (x : Option Parts). is_below t x) is
          ∙ below-again old t u b.0 r.0 r.1 valid near.qualifies r.2 low
    ]
