-- A change to the latest or the compatible version keeps the floor of a requirement, or raises it.
use Rattle.std.proofs.Common.{◌≡◌, ◌∷◌, [], List, ℕ, Ok, Option, Some, None, Bool, true, false, map, refl, ap, ◌∙◌, sym, subst}
use Rattle.std.specs.Prelude.{◌&&◌, ◌||◌, All, IsTrue, Result, is_ok, nat_eq, not}
use Rattle.std.specs.Cmp.Lexicographic.{nat_list_eq_equiv, pointwise}
use Rattle.std.specs.List.{AllByRecursion, list_any}
use Rattle.std.specs.Ordering.{is_ge}
use Rattle.std.proofs.lemmas.Bool.{true≢false}
use Rattle.semver.specs.Grammar.{IsValid}
use Rattle.semver.specs.Parse.{Held, Parts, req_of}
use Rattle.semver.specs.declared.error.Error.{Error}
use Rattle.semver.specs.declared.Op.TheVariants as op
use Rattle.edit_version.specs.Admits.{admits}
use Rattle.edit_version.specs.Laws.{IsVersion, precedence}
use Rattle.edit_version.specs.Requirement.{Nothing, UpgradeResult, Text, Unread, Unsupported, plain_text, upgrade_of, upgraded_comparator}
use Rattle.edit_version.specs.Selection.{IsCompatible, IsLatest, is_admitted, is_offered}
use Rattle.edit_version.proofs.ComparatorReadings.{tidy}
use Rattle.edit_version.proofs.Cuts.{plain_text-plain}
use Rattle.edit_version.proofs.FixedTexts.{IsRaised, none-first, raised-read, raised-reads}
use Rattle.edit_version.proofs.Narrows.{left_of}
use Rattle.edit_version.proofs.Orders.{greatest-has}
use Rattle.edit_version.proofs.Outcomes.{admitted, reads-same, valid-version}
use Rattle.edit_version.proofs.Shapes.{req-shape}
use Rattle.edit_report.specs.declared.row.Change.TheVariants as change
use Rattle.edit_upgrade.specs.Decision.{Case, compatible_text, decision, is_set_aside, is_too_low, latest_text, may_jump, newer, text_or, unless, some_if}
use Rattle.edit_version.specs.Floors.{HasFloor, IsFloor, is_below, is_end, one_begins_after, read_begins_after}
use Rattle.edit_upgrade.specs.declared.decision.options.Options.{Options}
use Rattle.edit_version.proofs.FloorLemmas.{Rises, all-rise, all-rise_accepted, begins-of, floor-below, later-not_after, none-after, not-after, or-left, some-floor}
use Rattle.edit_upgrade.proofs.TakenVersions.{compatible-taken, far-some, far_text, latest-taken, near-some, newer-latest, unless-some, some_if-some}

-- the new text has a floor that is not lower, where the old one has one
abbrev pub KeepsFloors : List ℕ → List ℕ → Type 0
KeepsFloors old new = (f : Parts) → HasFloor old f → (g : Parts) × HasFloor new g × IsTrue (is_ge (precedence g f))

-- ---- a raised text

-- a text whose comparators rise to the version
pub raised-keeps : (old t : List ℕ) (v : Parts) (c : Held) (cs : List Held) → IsVersion v
    → IsRaised old v t c cs
    → AllByRecursion (Rises v) (c ∷ cs) → KeepsFloors old t
raised-keeps old t v c cs w r rise f has =
    let ds = map tidy (map (upgraded_comparator v) (c ∷ cs)) in
    let floor = subst (λ (x : List Held). IsFloor x f) (reads-same old has.0 (c ∷ cs) has.1 r.0) has.2 in
    let begins = begins-of c.0 (none-first c cs r.1).0 in
    let rest = list_any (λ (d : Held). not (is_end d.0)) (map tidy (map (upgraded_comparator v) cs)) in
    let some : list_any (λ (d : Held). not (is_end d.0)) ds ≡ true =
    ap (λ (b : Bool). not b || rest) begins in
    let g = some-floor ds some in (
      g.0,
      (ds, (raised-reads old v t c cs w r).0, g.1),
      floor-below (c ∷ cs) f g.0 floor
          (none-after v g.0 (c ∷ cs) r.1 rise g.1.greatest),
    )

-- the comparators of a text that was raised to a version that it admits rise to it
pub admitted-rise : (old : List ℕ) (u : Parts) (t : List ℕ) (c : Held) (cs : List Held)
    → is_admitted old u ≡ true → IsRaised old u t c cs
    → AllByRecursion (Rises u) (c ∷ cs)
admitted-rise old u t c cs qualifies r =
    let shape = req-shape old (c ∷ cs) r.0 in
    let a = admitted old u qualifies in
    let all = subst (λ (x : List Held). admits x u ≡ true) (reads-same old a.0 (c ∷ cs) a.1 r.0) a.2 in
    all-rise_accepted u (c ∷ cs) shape.0 r.1 (left_of _ _ all)

-- ---- texts that there are

no-text : {P : Type 0} (t : List ℕ) → None ≡ Some t → P
no-text t h = cc h

some-text : (s t : List ℕ) → Some s ≡ Some t → s ≡ t
some-text s t h = cc h

-- ---- the compatible version

compatible-keeps : (xs : List Parts) (old t : List ℕ) (u : Parts) (r : UpgradeResult) → All IsValid xs
    → IsCompatible old xs (Some u)
    → upgrade_of old u ≡ r → text_or old r ≡ Some t → pointwise nat_eq t old ≡ false → KeepsFloors old t
compatible-keeps xs old t u Unread all near e h other = no-text t h
compatible-keeps xs old t u Nothing all near e h other = no-text t h
compatible-keeps xs old t u (Unsupported d) all near e h other =
    let same = some-text old t h in
    let self = nat_list_eq_equiv.refl t in
    absurd (true≢false (sym self ∙ ap (λ (x : List ℕ). pointwise nat_eq t x) (sym same) ∙ other))
compatible-keeps xs old t u (Text s) all near e h other =
    let same = some-text s t h in
    let r = raised-read old u t (e ∙ ap Text same) in
    let w = valid-version u (greatest-has IsValid (is_admitted old) xs u all near) in
    raised-keeps old t u r.0 r.1 w r.2 (admitted-rise old u t r.0 r.1 near.qualifies r.2)

-- ---- the latest version

-- what is read of a text that does not begin after a version
none-read : (old : List ℕ) (cs : List Held) (v : Parts) → req_of old ≡ Ok cs → is_below old (Some v) ≡ false
    → one_begins_after cs v ≡ false
none-read old cs v read high =
    ap (λ (r : Result (List Held) Error). read_begins_after r v) (sym read) ∙ high

-- the version's own text, where the version is not lower
plain-keeps : (old : List ℕ) (v : Parts) → IsValid v → is_below old (Some v) ≡ false
    → KeepsFloors old (plain_text v)
plain-keeps old v valid high f has =
    let ds : List Held = (op.Caret, v.0, Some v.1, Some v.2, v.3) ∷ [] in
    let none = none-read old has.0 v has.1 high in
    let g = some-floor ds refl in
    let above = not-after g.0 (op.Caret, v.0, Some v.1, Some v.2, v.3) refl (or-left _ _ g.1.greatest) in (
      g.0,
      (ds, (plain_text-plain v valid).0, g.1),
      floor-below has.0 f g.0 has.2
          (later-not_after v g.0 has.0 above none),
    )

latest-keeps : (old : List ℕ) (v : Parts) (t : List ℕ) (r : UpgradeResult) → IsValid v
    → is_below old (Some v) ≡ false → upgrade_of old v ≡ r
    → text_or (plain_text v) r ≡ Some t → KeepsFloors old t
latest-keeps old v t Unread valid high e h = no-text t h
latest-keeps old v t Nothing valid high e h = no-text t h
latest-keeps old v t (Unsupported d) valid high e h =
    let same = some-text (plain_text v) t h in
    subst (λ (x : List ℕ). KeepsFloors old x) same (plain-keeps old v valid high)
latest-keeps old v t (Text s) valid high e h =
    let same = some-text s t h in
    let r = raised-read old v t (e ∙ ap Text same) in
    let shape = req-shape old (r.0 ∷ r.1) r.2.0 in
    let none = none-read old (r.0 ∷ r.1) v r.2.0 high in
    raised-keeps old t v r.0 r.1 (valid-version v valid) r.2 (all-rise v (r.0 ∷ r.1) shape.0 r.2.1 none)

-- ---- the decision

-- what is not too low is not below
high-of : (never : Bool) (old : List ℕ) (far : Option Parts) (v : Parts) → never ≡ true → far ≡ Some v
    → is_too_low never old far ≡ false
    → is_below old (Some v) ≡ false
high-of never old far v on is h =
    ap (λ (o : Option Parts). is_below old o) (sym is) ∙ and-right never (is_below old far) on h
  where
    and-right : (a b : Bool) → a ≡ true → (a && b) ≡ false → b ≡ false
    and-right true b on h = h
    and-right false b on h = cc on

-- a change to the compatible version
pub compatible-qualifies : (o : Options) (xs : List Parts) (c : Case) → All IsValid xs
    → IsCompatible c.old xs c.compatible
    → (decision o c).change ≡ Some change.Compatible → KeepsFloors c.old (decision o c).new
compatible-qualifies o xs c all iscomp h =
    let k = compatible-taken c.old c.excluded (unless (is_set_aside o c) c.selected)
    (is_ok (req_of c.old)) (some_if (may_jump o c) (latest_text c))
    (some_if o.compatible (compatible_text c)) h in
    let n = near-some o c.old k.0 c.compatible k.1 in
    let near = subst (λ (x : Option Parts). IsCompatible c.old xs x) n.1 iscomp in
    subst (λ (x : List ℕ). KeepsFloors c.old x) (sym k.2)
    (compatible-keeps xs c.old k.0 n.0 (upgrade_of c.old n.0) all near refl n.2 k.3)

-- a change to the latest version, where requirements are never to be lowered
pub latest-qualifies : (o : Options) (xs : List Parts) (c : Case) → All IsValid xs → IsLatest c.old xs c.latest
    → c.never_lower ≡ true
    → (decision o c).change ≡ Some change.Latest → KeepsFloors c.old (decision o c).new
latest-qualifies o xs c all islatest on h =
    let k = latest-taken c.old c.excluded (unless (is_set_aside o c) c.selected) (is_ok (req_of c.old))
    (some_if (may_jump o c) (latest_text c))
    (some_if o.compatible (compatible_text c)) h in
    let u = unless-some (is_too_low c.never_lower c.old (newer c.latest c.compatible))
    (far_text c.old c.latest c.compatible) k.0
    (some_if-some (may_jump o c) (latest_text c) k.0 k.1) in
    let f = far-some c.old k.0 c.latest c.compatible u.1 in
    let far = subst (λ (x : Option Parts). IsLatest c.old xs x)
    (newer-latest c.latest c.compatible f.0 f.1) islatest in
    let valid = greatest-has IsValid (is_offered c.old) xs f.0 all far in
    let high = high-of c.never_lower c.old (newer c.latest c.compatible) f.0 on f.1 u.0 in
    subst (λ (x : List ℕ). KeepsFloors c.old x) (sym k.2)
    (latest-keeps c.old f.0 k.0 (upgrade_of c.old f.0) valid high refl f.2)
