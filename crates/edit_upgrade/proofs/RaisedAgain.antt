-- An entry that was raised to a version is not raised again, over the same versions.
use Rattle.std.proofs.Common.{◌≡◌, ◌∷◌, [], List, ℕ, Ok, Err, Option, Some, None, true, false, length, refl, ap, ◌∙◌, sym, subst, inl, inr}
use Rattle.std.specs.Prelude.{All, Result, nat_eq, option_and_then}
use Rattle.std.specs.Cmp.Lexicographic.{nat_list_eq_equiv, pointwise}
use Rattle.std.proofs.lemmas.Bool.{cases_Bool}
use Rattle.semver.specs.Grammar.{IsValid}
use Rattle.semver.specs.OrderLaws.{same_text}
use Rattle.semver.specs.Parse.{Held, Parts, req_of}
use Rattle.semver.specs.declared.error.Error as semver_error
use Rattle.edit_version.specs.Greatest.{IsGreatestItem}
use Rattle.edit_version.specs.Requirement.{Nothing, UpgradeResult, Text, Unread, Unsupported, plain_text, upgrade_of, upgrade_all, upgrade_parsed, unless_same}
use Rattle.edit_version.specs.Selection.{IsCompatible, IsLatest, is_admitted, is_offered}
use Rattle.edit_version.specs.VersionOrder.{full_order}
use Rattle.edit_version.proofs.Builds.{plain-same, raise-same}
use Rattle.edit_version.proofs.Greatests.{wider-found}
use Rattle.edit_version.proofs.Lands.{Lands, latest-again, near-again, near-is, outcome-lands, plain_text-parts}
use Rattle.edit_version.proofs.Offers.{admitted-offered, dash-offered, offered-dash, offered-plain, plain-offered, release-or}
use Rattle.edit_version.proofs.Orders.{fewer, greatest-has, greatest-same}
use Rattle.edit_version.proofs.Outcomes.{admitted, narrower-of, nothing-outcome, settled-of, text-outcome, valid-version}
use Rattle.edit_upgrade.specs.Decision.{newer, text_or}
use Rattle.edit_upgrade.proofs.TakenVersions.{far_text, near_text}

-- a latest version with the compatible one's text is not newer
pub newer-none : (u v : Parts) → plain_text v ≡ plain_text u → newer (Some v) (Some u) ≡ None
newer-none u v e =
    let self : pointwise nat_eq (plain_text v) (plain_text u) ≡ true = rw e
    (nat_list_eq_equiv.refl (plain_text u)) in
    rw self refl

-- ---- after the latest version was written

-- neither version raises a text that the latest one was written into
settled-at : (xs : List Parts) (t : List ℕ) (v : Parts) (near : Option Parts) → Lands v t
    → IsGreatestItem (is_offered t) full_order xs v
    → IsCompatible t xs near → (far_text t (Some v) near ≡ None) × (near_text t near ≡ None)
settled-at xs t v None l far near = (rw l.fixed refl, refl)
settled-at xs t v (Some u) l far near =
    let s = near-is xs t v u l far near in
    let again : upgrade_of t u ≡ Nothing = raise-same t u v s ∙ l.fixed in
    (rw (newer-none u v (sym (plain-same u v s))) refl, rw again refl)

-- what was raised to the latest version stays
pub latest-settles : (xs : List Parts) (old t : List ℕ) (v : Parts) (far near : Option Parts) → Lands v t
    → IsGreatestItem (is_offered old) full_order xs v → IsLatest t xs far → IsCompatible t xs near
    → (far_text t far near ≡ None) × (near_text t near ≡ None)
latest-settles xs old t v far near l h isfar isnear =
    let mine = latest-again xs old t v l h in
    let e : far ≡ Some v = greatest-same (is_offered t) xs far (Some v) isfar mine in
    let s = settled-at xs t v near l mine isnear in
    (subst (λ (x : Option Parts). far_text t x near ≡ None) (sym e) s.0, s.1)

-- ---- after the compatible version was written

-- where the latest version has the compatible one's text, so it has after the change
same-again : (xs : List Parts) (old t : List ℕ) (u v : Parts) (far : Option Parts) → All IsValid xs
    → Lands u t
    → IsGreatestItem (is_admitted old) full_order xs u → IsGreatestItem (is_offered old) full_order xs v
    → plain_text v ≡ plain_text u
    → IsLatest t xs far → far_text t far (Some u) ≡ None
same-again xs old t u v far all l near h e isfar =
    let s = plain_text-parts u v (greatest-has IsValid (is_admitted old) xs u all near)
    (greatest-has IsValid (is_offered old) xs v all h) e in
    let mine : IsGreatestItem (is_offered t) full_order xs v = elim (release-or u) [
      | inl plain ↦
          let vplain : length v.3 ≡ 0 = ap (λ (x : List ℕ). length x) s.3 ∙ plain in
          fewer (is_offered t) (is_offered old)
          (λ x k. offered-plain old x (plain-offered t x k (l.plain plain))) xs v h
          (offered-plain t v vplain)
      | inr some ↦
          let dash = dash-offered old u (admitted-offered old u near.qualifies) some in
          fewer (is_offered t) (is_offered old) (λ x k. offered-dash old x dash) xs v h
          (offered-dash t v (l.dashed some))
    ] in
    let f : far ≡ Some v = greatest-same (is_offered t) xs far (Some v) isfar mine in
    subst (λ (x : Option Parts). far_text t x (Some u) ≡ None) (sym f) (rw (newer-none u v e) refl)

-- a later version that raising leaves the text for has the compatible one's text
nothing-same : (xs : List Parts) (old : List ℕ) (u v : Parts) → All IsValid xs
    → IsGreatestItem (is_admitted old) full_order xs u
    → IsGreatestItem (is_offered old) full_order xs v → upgrade_of old v ≡ Nothing
    → plain_text v ≡ plain_text u
nothing-same xs old u v all near h none =
    let valid = greatest-has IsValid (is_offered old) xs v all h in
    let l = outcome-lands old v old valid h.qualifies (nothing-outcome old v none) in
    let s = near-is xs old v u l h near in
    sym (plain-same u v s)

-- a latest version with another text is newer
newer-other : (u v : Parts) → pointwise nat_eq (plain_text v) (plain_text u) ≡ false
    → newer (Some v) (Some u) ≡ Some v
newer-other u v h = rw h refl

-- what gives no text, though it was read, gives nothing
text-none : (other : List ℕ) (r : UpgradeResult) → text_or other r ≡ None → (r ≡ Unread → ⊥) → r ≡ Nothing
text-none other Unread h n = absurd (n refl)
text-none other Nothing h n = refl
text-none other (Unsupported d) h n = cc h
text-none other (Text t) h n = cc h

-- what was raised to the compatible version is not raised to a later one, if it was not before
pub compatible-far : (xs : List Parts) (old t : List ℕ) (u : Parts) (latest far : Option Parts)
    → All IsValid xs → upgrade_of old u ≡ Text t
    → IsGreatestItem (is_admitted old) full_order xs u → IsLatest old xs latest
    → far_text old latest (Some u) ≡ None
    → IsLatest t xs far → far_text t far (Some u) ≡ None
compatible-far xs old t u None far all r near islatest none isfar =
    absurd (wider-found (is_admitted old) (is_offered old) full_order
    (λ x k. admitted-offered old x k) xs u near islatest)
compatible-far xs old t u (Some v) far all r near islatest none isfar =
    let valid = greatest-has IsValid (is_admitted old) xs u all near in
    let l = outcome-lands old u t valid (admitted-offered old u near.qualifies) (text-outcome old u t r) in
    elim (cases_Bool (pointwise nat_eq (plain_text v) (plain_text u))) [
      | inl same ↦ same-again xs old t u v far all l near islatest (same_text _ _ same) isfar
      | inr other ↦
          let first : text_or (plain_text v) (upgrade_of old v) ≡ None =
          sym (ap (λ (x : Option Parts). option_and_then (λ w. text_or (plain_text w) (upgrade_of old w)) x)
          (newer-other u v other)) ∙ none in
          let nothing = text-none (plain_text v) (upgrade_of old v) first (λ q. unread-both old u v t r q) in
          same-again xs old t u v far all l near islatest
          (nothing-same xs old u v all near islatest nothing) isfar
    ]
  where
    unread-of : (old : List ℕ) (u v : Parts) (t : List ℕ) (p : Result (List Held) semver_error.Error)
        → upgrade_parsed old u p ≡ Text t → upgrade_parsed old v p ≡ Unread → ⊥
    unread-of old u v t (Err e) h q = cc h
    unread-of old u v t (Ok []) h q = cc h
    unread-of old u v t (Ok (c ∷ cs)) h q = all-of old v (c ∷ cs) _ q
      where
        unless-of : (old new : List ℕ) → unless_same old new ≡ Unread → ⊥
        unless-of old new q = elim (cases_Bool (pointwise nat_eq new old)) [
          | inl same ↦ cc (rw same at q)
          | inr other ↦ cc (rw other at q)
        ]

        all-of : (old : List ℕ) (v : Parts) (cs : List Held) (o : Option Held)
            → upgrade_all old v cs o ≡ Unread → ⊥
        all-of old v cs (Some d) q = cc q
        all-of old v cs None q = unless-of old _ q

    unread-both : (old : List ℕ) (u v : Parts) (t : List ℕ) → upgrade_of old u ≡ Text t
        → upgrade_of old v ≡ Unread → ⊥
    unread-both old u v t h q = unread-of old u v t (req_of old) h q

-- the compatible version is the same after the change, and raises nothing
pub compatible-near : (xs : List Parts) (old t : List ℕ) (u : Parts) (near : Option Parts) → All IsValid xs
    → upgrade_of old u ≡ Text t
    → IsGreatestItem (is_admitted old) full_order xs u → IsCompatible t xs near
    → (near ≡ Some u) × (near_text t near ≡ None)
compatible-near xs old t u near all r h isnear =
    let valid = greatest-has IsValid (is_admitted old) xs u all h in
    let w = valid-version u valid in
    let o = text-outcome old u t r in
    let n = narrower-of old u t w o (admitted old u h.qualifies) in
    let e : near ≡ Some u = greatest-same (is_admitted t) xs near (Some u) isnear
    (near-again xs old t u n h) in
    (e, subst (λ (x : Option Parts). near_text t x ≡ None) (sym e) (rw (settled-of old u t w o).1 refl))
