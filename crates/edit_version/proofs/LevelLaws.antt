-- What raising a requirement does to the versions within a level of it.
use Rattle.std.proofs.Common.{◌≡◌, ◌∷◌, ◌≤◌, [], List, ℕ, Ok, Option, Some, None, Bool, true, false, map, refl, ap, ◌∙◌, sym, subst, arith, inl, inr, eqb-true}
use Rattle.std.specs.Prelude.{◌⊎◌, ◌==◌, ◌&&◌, ◌||◌, All, find, not, option_map, unwrap_or}
use Rattle.std.specs.List.{Contains, list_any}
use Rattle.std.specs.Ordering.{is_ge, nat_cmp, ordering_then}
use Rattle.std.specs.declared.cmp.Ordering.{Ordering}
use Rattle.std.proofs.lemmas.Bool.{cases_Bool}
use Rattle.std.proofs.lemmas.Bool.Decides.{nat_tests}
use Rattle.std.proofs.lemmas.List.Elements.{All-cons, All-contains, All-map, All-nil, Contains-append_right, filter_agree}
use Rattle.semver.specs.Grammar.{IsValid}
use Rattle.semver.specs.Parse.{Held, Parts, req_of}
use Rattle.semver.specs.declared.Op.TheVariants as op
use Rattle.edit_version.specs.Floors.{IsFloor, begins_after, comparator_version, floor_in, floor_of, is_end, names_floor, one_begins_after}
use Rattle.edit_version.specs.Greatest.{IsGreatestItem}
use Rattle.edit_version.specs.Laws.{IsVersion}
use Rattle.edit_version.specs.Levels.{has_numbers, is_within, versions_within}
use Rattle.edit_version.specs.Requirement.{Text, plain_text, renumbered, upgrade_of, upgraded_comparator}
use Rattle.edit_version.specs.VersionOrder.{full_order}
use Rattle.edit_version.specs.declared.levels.Level.{Level}
use Rattle.edit_version.specs.declared.levels.Level.TheVariants.{Major, Minor, Patch}
use Rattle.edit_version.proofs.Builds.{without_build}
use Rattle.edit_version.proofs.ComparatorReadings.{tidy}
use Rattle.edit_version.proofs.Cuts.{plain_text-plain}
use Rattle.edit_version.proofs.FilteredGreatests.{greatest-among}
use Rattle.edit_version.proofs.FixedTexts.{none-first, raised-read, raised-reads}
use Rattle.edit_version.proofs.FloorLemmas.{after-not, begins-of, not-after, or-left, or-right, some-floor}
use Rattle.edit_version.proofs.LowerLemmas.{equal-self, ge-self}
use Rattle.edit_version.proofs.Narrows.{left_of, right_of}

-- ---- the floor of comparators

-- what a search finds is among the elements, and passes
found-is : {X : Type 0} (p : X → Bool) (xs : List X) (x : X) → find p xs ≡ Some x
    → Contains xs x × (p x ≡ true)
found-is p [] x h = cc h
found-is p (y ∷ ys) x h = elim (cases_Bool (p y)) [
  | inl holds ↦
      let e : Some y ≡ Some x = rw holds at h in
      let same : y ≡ x = cc e in
      ((0, omega arith, same), ap p (sym same) ∙ holds)
  | inr fails ↦
      let more = found-is p ys x (rw fails at h) in
      (Contains-append_right (y ∷ []) ys x more.0, more.1)
]

-- where a search finds nothing, no element passes
none-passes : {X : Type 0} (p : X → Bool) (xs : List X) → find p xs ≡ None → All (λ x. p x ≡ false) xs
none-passes p [] h = All-nil (λ x. p x ≡ false)
none-passes p (y ∷ ys) h = elim (cases_Bool (p y)) [
  | inl holds ↦ cc (rw holds at h)
  | inr fails ↦ All-cons (λ x. p x ≡ false) y ys fails (none-passes p ys (rw fails at h))
]

mapped-some : {X Y : Type 0} (f : X → Y) (o : Option X) (y : Y) → option_map f o ≡ Some y
    → (x : X) × (o ≡ Some x) × (f x ≡ y)
mapped-some f None y h = cc h
mapped-some f (Some x) y h = let e : f x ≡ y = cc h in (x, refl, e)

not-true : (b : Bool) → not b ≡ true → b ≡ false
not-true true h = cc h
not-true false h = refl

-- the floor that is computed is one
pub floor-is : (cs : List Held) (f : Parts) → floor_in cs ≡ Some f → IsFloor cs f
floor-is cs f h =
    let m = mapped-some comparator_version (find (names_floor cs) cs) f h in
    let k = found-is (names_floor cs) cs m.0 m.1 in
    record {
      comparator = m.0;
      among = k.0;
      begins = not-true _ (left_of _ _ k.1);
      names = sym m.2;
      greatest = ap (one_begins_after cs) (sym m.2) ∙ not-true _ (right_of _ _ k.1);
    }

-- comparators one of which begins have a floor that is computed
floor-there : (cs : List Held) → list_any (λ (c : Held). not (is_end c.0)) cs ≡ true
    → (f : Parts) × (floor_in cs ≡ Some f)
floor-there cs h = by-found (find (names_floor cs) cs) refl
  where
    by-found : (o : Option Held) → find (names_floor cs) cs ≡ o → (f : Parts) × (floor_in cs ≡ Some f)
    by-found (Some c) e = (comparator_version c, ap (option_map comparator_version) e)
    by-found None e =
        let g = some-floor cs h in
        let none : names_floor cs g.1.comparator ≡ false = All-contains (λ c. names_floor cs c ≡ false) cs
        g.1.comparator (none-passes (names_floor cs) cs e) g.1.among in
        let high : one_begins_after cs (comparator_version g.1.comparator) ≡ false =
        ap (one_begins_after cs) (sym g.1.names) ∙ g.1.greatest in
        let one : names_floor cs g.1.comparator ≡ true = rw (g.1.begins, high) refl in
        cc (sym one ∙ none)

-- ---- the numbers of a floor after raising

-- the comparators that a requirement raised to a version is read as
abbrev raised_all : Parts → List Held → List Held
raised_all v cs = map tidy (map (upgraded_comparator v) cs)

-- each has the major number of the version
raised-major : (v : Parts) (cs : List Held) → All (λ (d : Held). d.1 ≡ v.0) (raised_all v cs)
raised-major v cs = All-map (λ (d : Held). d.1 ≡ v.0) tidy (map (upgraded_comparator v) cs)
    (All-map (λ (d : Held). (tidy d).1 ≡ v.0) (upgraded_comparator v) cs (λ k d low. refl))

abbrev IsMinor : ℕ → Option ℕ → Type 0
IsMinor n m = (unwrap_or m 0 ≡ n) ⊎ (unwrap_or m 0 ≡ 0)

minor-of : (m : Option ℕ) (n : ℕ) → IsMinor n (renumbered m n)
minor-of None n = inr refl
minor-of (Some m) n = inl refl

-- each has its minor number, or none
raised-minor : (v : Parts) (cs : List Held) → All (λ (d : Held). IsMinor v.1 d.2) (raised_all v cs)
raised-minor v cs = All-map (λ (d : Held). IsMinor v.1 d.2) tidy (map (upgraded_comparator v) cs)
    (All-map (λ (d : Held). IsMinor v.1 (tidy d).2) (upgraded_comparator v) cs
    (λ k d low. minor-of _ v.1))

-- a version that none of the raised comparators begins after
none-raised : (v g : Parts) (cs : List Held) → one_begins_after (raised_all v cs) g ≡ false
    → All (λ (c : Held). begins_after g (tidy (upgraded_comparator v c)) ≡ false) cs
none-raised v g [] h = All-nil (λ (c : Held). begins_after g (tidy (upgraded_comparator v c)) ≡ false)
none-raised v g (c ∷ cs) h =
    All-cons (λ (d : Held). begins_after g (tidy (upgraded_comparator v d)) ≡ false) c cs (or-left _ _ h)
    (none-raised v g cs (or-right _ _ h))

-- of versions with one major number, one that is not lower has no lower minor number
minor-ge : (a b m n : ℕ) (r : Ordering) → a ≡ b
    → is_ge (ordering_then (nat_cmp a b) (ordering_then (nat_cmp m n) r)) ≡ true → n ≤ m
minor-ge a b m n r e h = grind (arith, nat_tests)

-- a comparator with a minor number is raised to one that names no lower version than the version's minor
minor-below : (v g : Parts) (c : Held) (m : ℕ) → c.2 ≡ Some m → is_end c.0 ≡ false → g.0 ≡ v.0
    → begins_after g (tidy (upgraded_comparator v c)) ≡ false → v.1 ≤ g.1
minor-below v g c m e begins major h =
    let up = not-after g (tidy (upgraded_comparator v c)) begins h in
    let named : unwrap_or (renumbered c.2 v.1) 0 ≡ v.1 = rw e refl in
    let le = minor-ge g.0 v.0 g.1 (unwrap_or (renumbered c.2 v.1) 0) _ major up in
    omega (arith, le, named)

floor-minor : (f v g : Parts) (c : Held) → f ≡ comparator_version c → v.1 ≡ f.1 → IsMinor v.1 (Some g.1)
    → ((m : ℕ) → c.2 ≡ Some m → v.1 ≤ g.1) → g.1 ≡ f.1
floor-minor f v g c names minor (inl same) low = same ∙ minor
floor-minor f v g c names minor (inr zero) low =
    let named : f.1 ≡ unwrap_or c.2 0 = ap (λ (x : Parts). x.1) names in
    by-minor c.2 refl named
  where
    by-minor : (m : Option ℕ) → c.2 ≡ m → f.1 ≡ unwrap_or c.2 0 → g.1 ≡ f.1
    by-minor None e named = zero ∙ sym (named ∙ ap (λ (x : Option ℕ). unwrap_or x 0) e)
    by-minor (Some m) e named = let le = low m e in omega (arith, le, zero, minor)

-- the major number of the floor is that of the version
floor-major : (g v : Parts) (cs : List Held) → IsFloor (raised_all v cs) g → g.0 ≡ v.0
floor-major g v cs high = ap (λ (x : Parts). x.0) high.names
    ∙ All-contains (λ (d : Held). d.1 ≡ v.0) (raised_all v cs) high.comparator (raised-major v cs) high.among

-- ---- levels

-- where a version has the numbers of a floor, the floor of what was raised to it has the same
raised-numbers : (l : Option Level) (f g v : Parts) (cs : List Held) → IsFloor cs f
    → IsFloor (raised_all v cs) g → has_numbers l (Some f) v ≡ true
    → (w : Parts) → has_numbers l (Some g) w ≡ has_numbers l (Some f) w
raised-numbers None f g v cs low high h w = refl
raised-numbers (Some Major) f g v cs low high h w = refl
raised-numbers (Some Minor) f g v cs low high h w =
    let major = floor-major g v cs high ∙ eqb-true v.0 f.0 h in
    ap (λ n. w.0 == n) major
raised-numbers (Some Patch) f g v cs low high h w =
    let first = floor-major g v cs high in
    let major = first ∙ eqb-true v.0 f.0 (left_of _ _ h) in
    let none = none-raised v g cs high.greatest in
    let mine : IsMinor v.1 (Some g.1) = subst (λ (x : Parts). IsMinor v.1 (Some x.1)) (sym high.names)
    (All-contains (λ (d : Held). IsMinor v.1 d.2) (raised_all v cs) high.comparator (raised-minor v cs)
    high.among) in
    let minor = floor-minor f v g low.comparator low.names (eqb-true v.1 f.1 (right_of _ _ h)) mine
    (λ m e. minor-below v g low.comparator m e low.begins first
    (All-contains (λ (c : Held). begins_after g (tidy (upgraded_comparator v c)) ≡ false) cs low.comparator
    none low.among)) in
    ap (λ n. (w.0 == n) && (w.1 == g.1)) major ∙ ap (λ n. (w.0 == f.0) && (w.1 == n)) minor

-- the floor of a text by what it is read as
floor-text : (text : List ℕ) (cs : List Held) → req_of text ≡ Ok cs → floor_of text ≡ floor_in cs
floor-text text cs h = rw h refl

-- the versions within a level of a requirement are those of what it is raised to, if the version is one
pub raised-within : (l : Option Level) (old t : List ℕ) (v : Parts) → IsVersion v → upgrade_of old v ≡ Text t
    → is_within l old v ≡ true → (w : Parts) → is_within l t w ≡ is_within l old w
raised-within l old t v valid e h w =
    let r = raised-read old v t e in
    let cs : List Held = r.0 ∷ r.1 in
    let begins = begins-of r.0.0 (none-first r.0 r.1 r.2.1).0 in
    let rest = list_any (λ (d : Held). not (is_end d.0)) r.1 in
    let more = list_any (λ (d : Held). not (is_end d.0)) (raised_all v r.1) in
    let f = floor-there cs (ap (λ (b : Bool). not b || rest) begins) in
    let g = floor-there (raised_all v cs) (ap (λ (b : Bool). not b || more) begins) in
    let old_floor : floor_of old ≡ Some f.0 = floor-text old cs r.2.0 ∙ f.1 in
    let new_floor : floor_of t ≡ Some g.0 = floor-text t (raised_all v cs)
    (raised-reads old v t r.0 r.1 valid r.2).0 ∙ g.1 in
    let within : has_numbers l (Some f.0) v ≡ true = ap (λ (x : Option Parts). has_numbers l x v)
    (sym old_floor) ∙ h in
    ap (λ (x : Option Parts). has_numbers l x w) new_floor
    ∙ raised-numbers l f.0 g.0 v cs (floor-is cs f.0 f.1) (floor-is (raised_all v cs) g.0 g.1) within w
    ∙ ap (λ (x : Option Parts). has_numbers l x w) (sym old_floor)

-- so the old and the new requirement have the same versions of a list within the level
pub raised-versions : (l : Option Level) (old t : List ℕ) (v : Parts) (all : List Parts) → IsVersion v
    → upgrade_of old v ≡ Text t → is_within l old v ≡ true → versions_within l t all ≡ versions_within l old all
raised-versions l old t v all valid e h =
    filter_agree (is_within l t) (is_within l old) (raised-within l old t v valid e h) all

-- build metadata plays no part in a level
pub within-build : (l : Option Level) (text : List ℕ) (v : Parts)
    → is_within l text (without_build v) ≡ is_within l text v
within-build l text v = numbers-build l (floor_of text)
  where
    numbers-build : (l : Option Level) (o : Option Parts) → has_numbers l o (without_build v) ≡ has_numbers l o v
    numbers-build None o = refl
    numbers-build (Some Major) o = refl
    numbers-build (Some Minor) None = refl
    numbers-build (Some Minor) (Some f) = refl
    numbers-build (Some Patch) None = refl
    numbers-build (Some Patch) (Some f) = refl

-- ---- the text of a version

-- build metadata is no part of a floor
numbers-plain : (l : Option Level) (v w : Parts)
    → has_numbers l (Some (v.0, v.1, v.2, v.3, [])) w ≡ has_numbers l (Some v) w
numbers-plain None v w = refl
numbers-plain (Some Major) v w = refl
numbers-plain (Some Minor) v w = refl
numbers-plain (Some Patch) v w = refl

-- the versions within a level of a version's own text have its numbers
plain-numbers : (l : Option Level) (v w : Parts) → IsValid v
    → is_within l (plain_text v) w ≡ has_numbers l (Some v) w
plain-numbers l v w valid =
    let c : Held = (op.Caret, v.0, Some v.1, Some v.2, v.3) in
    let p = plain_text-plain v valid in
    let high : begins_after (comparator_version c) c ≡ false = after-not (comparator_version c) c
    (ge-self (comparator_version c)) in
    let floor : floor_of (plain_text v) ≡ Some (comparator_version c) =
    floor-text (plain_text v) (c ∷ []) p.0 ∙ rw high refl in
    ap (λ (x : Option Parts). has_numbers l x w) floor ∙ numbers-plain l v w

numbers-self : (l : Option Level) (v : Parts) → has_numbers l (Some v) v ≡ true
numbers-self None v = refl
numbers-self (Some Major) v = refl
numbers-self (Some Minor) v = equal-self v.0
numbers-self (Some Patch) v = rw (equal-self v.0, equal-self v.1) refl

numbers-trans : (l : Option Level) (o : Option Parts) (v w : Parts) → has_numbers l o v ≡ true
    → has_numbers l (Some v) w ≡ true → has_numbers l o w ≡ true
numbers-trans None o v w h g = refl
numbers-trans (Some Major) o v w h g = refl
numbers-trans (Some Minor) None v w h g = refl
numbers-trans (Some Patch) None v w h g = refl
numbers-trans (Some Minor) (Some f) v w h g = ap (λ n. w.0 == n) (sym (eqb-true v.0 f.0 h)) ∙ g
numbers-trans (Some Patch) (Some f) v w h g =
    ap (λ n. (w.0 == n) && (w.1 == f.1)) (sym (eqb-true v.0 f.0 (left_of _ _ h)))
    ∙ ap (λ n. (w.0 == v.0) && (w.1 == n)) (sym (eqb-true v.1 f.1 (right_of _ _ h))) ∙ g

-- what is within a level of a version's own text is within it of a requirement, if the version is
pub plain-narrower : (l : Option Level) (old : List ℕ) (v w : Parts) → IsValid v → is_within l old v ≡ true
    → is_within l (plain_text v) w ≡ true → is_within l old w ≡ true
plain-narrower l old v w valid h g =
    numbers-trans l (floor_of old) v w h (sym (plain-numbers l v w valid) ∙ g)

-- the greatest version within a level of a requirement is the greatest within it of the version's own text
pub plain-greatest : (l : Option Level) (old : List ℕ) (v : Parts) (all : List Parts) (keep : Parts → Bool)
    → IsValid v → is_within l old v ≡ true → IsGreatestItem keep full_order (versions_within l old all) v
    → IsGreatestItem keep full_order (versions_within l (plain_text v) all) v
plain-greatest l old v all keep valid h g =
    greatest-among keep (is_within l old) (is_within l (plain_text v))
    (λ w k. plain-narrower l old v w valid h k) all v g (plain-numbers l v v valid ∙ numbers-self l v)
