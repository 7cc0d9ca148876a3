-- Floors: what raising a requirement does to its floor.
use Rattle.std.proofs.Common.{◌≡◌, ◌∷◌, ◌<◌, [], List, ℕ, zero, suc, Option, Some, None, Bool, true, false, length, map, refl, ap, ◌∙◌, sym, subst, arith, inl, inr}
use Rattle.std.specs.Prelude.{◌==◌, ◌&&◌, ◌||◌, find, if◌then◌else◌, nat_le, not}
use Rattle.std.specs.List.{AllByRecursion, list_all, list_any, slice_index_or}
use Rattle.std.specs.Ordering.{is_ge, is_lt, nat_cmp, ordering_reverse}
use Rattle.std.specs.declared.cmp.Ordering.TheVariants.{Equal}
use Rattle.std.proofs.lemmas.Bool.{cases_Bool}
use Rattle.std.proofs.lemmas.List.Elements.{Contains-append_right}
use Rattle.semver.specs.Parse.{Held, Parts}
use Rattle.semver.specs.declared.Op.{Op}
use Rattle.semver.specs.declared.Op.TheVariants as op
use Rattle.edit_version.specs.Admits.{accepts}
use Rattle.edit_version.specs.Laws.{precedence}
use Rattle.edit_version.specs.Requirement.{is_inequality, upgraded_comparator}
use Rattle.edit_version.proofs.ComparatorReadings.{tidy}
use Rattle.edit_version.proofs.FixedTexts.{none-first}
use Rattle.edit_version.proofs.Forms.{least-all}
use Rattle.edit_version.proofs.Narrows.{left_of, named-pre, right_of}
use Rattle.edit_version.proofs.Orders.{precedence_total}
use Rattle.edit_version.proofs.Shapes.{IsShaped}
use Rattle.edit_version.proofs.LowerLemmas.{equal-self, ge-from, ge-not_lt, ge-self, ge-trans, le-same, le-zero, lt-is, not-less, trunc-first, trunc-second}
use Rattle.edit_version.specs.Floors.{IsFloor, begins_after, is_end, comparator_version, one_begins_after}

-- ---- one comparator

-- what a comparator that is raised to a version is read as names no earlier version
abbrev pub Rises : Parts → Held → Type 0
Rises v c = is_ge (precedence (comparator_version (tidy (upgraded_comparator v c))) (comparator_version c)) ≡ true

-- it does where the version is not below the one that the comparator names
pub rises-from : (o : Op) (n : ℕ) (m p : Option ℕ) (pre : List ℕ) (v : Parts) → IsShaped (o, n, m, p, pre)
    → is_ge (precedence v (comparator_version (o, n, m, p, pre))) ≡ true → Rises v (o, n, m, p, pre)
rises-from o n None None pre v s h = rw (s.plain refl) (trunc-first (nat_cmp v.0 n) _ h)
rises-from o n None (Some p) pre v s h = cc (s.nested refl)
rises-from o n (Some m) None pre v s h = rw (s.plain refl) (trunc-second (nat_cmp v.0 n) (nat_cmp v.1 m) _ h)
rises-from o n (Some m) (Some p) pre v s h = rw
    (named-pre o (Some p) pre v.3 v.2 v.2 s.starred (equal-self v.2)) h

-- a comparator with three numbers accepts no version below the one that it names
accepted-three : (o : Op) (n m p : ℕ) (pre : List ℕ) (v : Parts) → IsShaped (o, n, Some m, Some p, pre)
    → is_inequality o ≡ false
    → accepts (o, n, Some m, Some p, pre) v ≡ true
    → is_ge (precedence v (comparator_version (o, n, Some m, Some p, pre))) ≡ true
accepted-three o n m p pre v s i h =
    let own = named-pre o (Some p) pre pre p p s.starred (equal-self p) in
    let none : find (λ (d : Held). is_inequality d.0)
    ((o, n, Some m, Some p, pre) ∷ []) ≡ None = rw i refl in
    least-all (n, m, p, pre, []) v ((o, n, Some m, Some p, pre) ∷ []) (s, tt) none refl (rw (own, h) refl)

-- the major and the minor number of a version that a comparator without a patch number accepts
accepted-two : (o : Op) (n m : ℕ) (pre : List ℕ) (v : Parts) → is_inequality o ≡ false
    → accepts (o, n, Some m, None, pre) v ≡ true
    → ((v.0 == n) ≡ true) × (nat_le m v.1 ≡ true)
accepted-two op.Exact n m pre v i h =
    let two = left_of _ _ (left_of _ _ h) in (left_of _ _ two, le-same v.1 m (right_of _ _ two))
accepted-two op.Wildcard n m pre v i h =
    let two = left_of _ _ (left_of _ _ h) in (left_of _ _ two, le-same v.1 m (right_of _ _ two))
accepted-two op.Tilde n m pre v i h =
    let two = left_of _ _ h in (left_of _ _ two, le-same v.1 m (right_of _ _ two))
accepted-two op.Caret n m pre v i h = (left_of _ _ h, caret-le n m v.0 v.1 h)
  where
    caret-le : (n m a b : ℕ) → ((a == n) && (if n == 0 then b == m else nat_le m b)) ≡ true
        → nat_le m b ≡ true
    caret-le n m a b h = grind arith
accepted-two op.Greater n m pre v i h = cc i
accepted-two op.GreaterEq n m pre v i h = cc i
accepted-two op.Less n m pre v i h = cc i
accepted-two op.LessEq n m pre v i h = cc i

-- its major number
accepted-one : (o : Op) (n : ℕ) (pre : List ℕ) (v : Parts) → is_inequality o ≡ false
    → accepts (o, n, None, None, pre) v ≡ true
    → (v.0 == n) ≡ true
accepted-one op.Exact n pre v i h = left_of _ _ (left_of _ _ (left_of _ _ h))
accepted-one op.Wildcard n pre v i h = left_of _ _ (left_of _ _ (left_of _ _ h))
accepted-one op.Tilde n pre v i h = left_of _ _ (left_of _ _ h)
accepted-one op.Caret n pre v i h = left_of _ _ h
accepted-one op.Greater n pre v i h = cc i
accepted-one op.GreaterEq n pre v i h = cc i
accepted-one op.Less n pre v i h = cc i
accepted-one op.LessEq n pre v i h = cc i

-- a comparator rises to a version that it accepts
pub rises-accepted : (o : Op) (n : ℕ) (m p : Option ℕ) (pre : List ℕ) (v : Parts)
    → IsShaped (o, n, m, p, pre) → is_inequality o ≡ false
    → accepts (o, n, m, p, pre) v ≡ true → Rises v (o, n, m, p, pre)
rises-accepted o n None None pre v s i h =
    rw (s.plain refl) (not-less v.0 n Equal (le-same v.0 n (accepted-one o n pre v i h)) refl)
rises-accepted o n None (Some p) pre v s i h = cc (s.nested refl)
rises-accepted o n (Some m) None pre v s i h =
    let two = accepted-two o n m pre v i h in
    rw (s.plain refl) (not-less v.0 n _ (le-same v.0 n two.0) (not-less v.1 m Equal two.1 refl))
rises-accepted o n (Some m) (Some p) pre v s i h =
    rises-from o n (Some m) (Some p) pre v s (accepted-three o n m p pre v s i h)

-- a version without a pre-release is not below the one that a comparator names that accepts it
pub plain-above : (o : Op) (n : ℕ) (m p : Option ℕ) (pre : List ℕ) (v : Parts) → IsShaped (o, n, m, p, pre)
    → is_inequality o ≡ false
    → v.3 ≡ [] → accepts (o, n, m, p, pre) v ≡ true
    → is_ge (precedence v (comparator_version (o, n, m, p, pre))) ≡ true
plain-above o n None None pre v s i e h =
    rw (s.plain refl, e) (not-less v.0 n _ (le-same v.0 n (accepted-one o n pre v i h))
    (not-less v.1 0 _ (le-zero v.1) (not-less v.2 0 _ (le-zero v.2) refl)))
plain-above o n None (Some p) pre v s i e h = cc (s.nested refl)
plain-above o n (Some m) None pre v s i e h =
    let two = accepted-two o n m pre v i h in
    rw (s.plain refl, e) (not-less v.0 n _ (le-same v.0 n two.0)
    (not-less v.1 m _ two.1 (not-less v.2 0 _ (le-zero v.2) refl)))
plain-above o n (Some m) (Some p) pre v s i e h = accepted-three o n m p pre v s i h

-- ---- all comparators

-- an operator of an equality is no end
pub begins-of : (o : Op) → is_inequality o ≡ false → is_end o ≡ false
begins-of op.Exact h = refl
begins-of op.Wildcard h = refl
begins-of op.Tilde h = refl
begins-of op.Caret h = refl
begins-of op.Greater h = refl
begins-of op.GreaterEq h = refl
begins-of op.Less h = cc h
begins-of op.LessEq h = cc h

-- a comparator that begins, and not after the version, names one that is not later
pub not-after : (v : Parts) (c : Held) → is_end c.0 ≡ false → begins_after v c ≡ false
    → is_ge (precedence v (comparator_version c)) ≡ true
not-after v c e h = ge-from (precedence v (comparator_version c)) (rw e at h)

-- a comparator that names no later version does not begin after it
pub after-not : (v : Parts) (c : Held) → is_ge (precedence v (comparator_version c)) ≡ true
    → begins_after v c ≡ false
after-not v c h = rw (ge-not_lt (precedence v (comparator_version c)) h) (and-false (not (is_end c.0)))
  where
    and-false : (b : Bool) → (b && false) ≡ false
    and-false true = refl
    and-false false = refl

-- a choice that does not hold
pub or-left : (x y : Bool) → (x || y) ≡ false → x ≡ false
or-left true y h = cc h
or-left false y h = refl

-- its second part
pub or-right : (x y : Bool) → (x || y) ≡ false → y ≡ false
or-right true y h = cc h
or-right false y h = h

-- of two that do not hold
or-none : (x y : Bool) → x ≡ false → y ≡ false → (x || y) ≡ false
or-none x y h g = rw (h, g) refl

-- what begins after no raised comparator's version begins after none of the old ones
pub none-after : (v g : Parts) (cs : List Held) → find (λ (d : Held). is_inequality d.0) cs ≡ None
    → AllByRecursion (Rises v) cs
    → one_begins_after (map tidy (map (upgraded_comparator v) cs)) g ≡ false → one_begins_after cs g ≡ false
none-after v g [] n r h = refl
none-after v g (c ∷ cs) n r h =
    let i = none-first c cs n in
    let first = not-after g (tidy (upgraded_comparator v c)) (begins-of c.0 i.0) (or-left _ _ h) in
    or-none _ _ (after-not g c (ge-trans g (comparator_version (tidy (upgraded_comparator v c))) (comparator_version c) first r.0))
    (none-after v g cs i.1 r.1 (or-right _ _ h))

-- comparators that begin after none of a version rise to it
pub all-rise : (v : Parts) (cs : List Held) → AllByRecursion IsShaped cs
    → find (λ (d : Held). is_inequality d.0) cs ≡ None
    → one_begins_after cs v ≡ false → AllByRecursion (Rises v) cs
all-rise v [] s n h = tt
all-rise v (c ∷ cs) s n h =
    let i = none-first c cs n in (
      rises-from c.0 c.1 c.2 c.3 c.4 v s.0 (not-after v c (begins-of c.0 i.0) (or-left _ _ h)),
      all-rise v cs s.1 i.1 (or-right _ _ h),
    )

-- comparators that accept a version rise to it
pub all-rise_accepted : (v : Parts) (cs : List Held) → AllByRecursion IsShaped cs
    → find (λ (d : Held). is_inequality d.0) cs ≡ None
    → list_all (λ (c : Held). accepts c v) cs ≡ true → AllByRecursion (Rises v) cs
all-rise_accepted v [] s n h = tt
all-rise_accepted v (c ∷ cs) s n h =
    let i = none-first c cs n in (
      rises-accepted c.0 c.1 c.2 c.3 c.4 v s.0 i.0 (left_of _ _ h),
      all-rise_accepted v cs s.1 i.1 (right_of _ _ h),
    )

-- comparators that accept a version without a pre-release begin not after it
pub plain-not_after : (v : Parts) (cs : List Held) → AllByRecursion IsShaped cs
    → find (λ (d : Held). is_inequality d.0) cs ≡ None
    → v.3 ≡ [] → list_all (λ (c : Held). accepts c v) cs ≡ true → one_begins_after cs v ≡ false
plain-not_after v [] s n e h = refl
plain-not_after v (c ∷ cs) s n e h =
    let i = none-first c cs n in
    or-none _ _ (after-not v c (plain-above c.0 c.1 c.2 c.3 c.4 v s.0 i.0 e (left_of _ _ h)))
    (plain-not_after v cs s.1 i.1 e (right_of _ _ h))

-- comparators that begin not after a version begin not after a later one
pub later-not_after : (v w : Parts) (cs : List Held) → is_ge (precedence w v) ≡ true
    → one_begins_after cs v ≡ false → one_begins_after cs w ≡ false
later-not_after v w [] g h = refl
later-not_after v w (c ∷ cs) g h = or-none _ _ (one (or-left _ _ h))
    (later-not_after v w cs g (or-right _ _ h))
  where
    one : begins_after v c ≡ false → begins_after w c ≡ false
    one h = elim (cases_Bool (is_end c.0)) [
      | inl end ↦ rw end refl
      | inr begins ↦ after-not w c (ge-trans w v (comparator_version c) g (not-after v c begins h))
    ]

-- ---- the floor

-- comparators one of which begins have a floor
pub some-floor : (cs : List Held) → list_any (λ (c : Held). not (is_end c.0)) cs ≡ true
    → (g : Parts) × IsFloor cs g
some-floor [] h = cc h
some-floor (c ∷ cs) h = elim (cases_Bool (is_end c.0)) [
  | inl end ↦
      let more : list_any (λ (d : Held). not (is_end d.0)) cs ≡ true = rw end at h in
      let rest = some-floor cs more in
      (rest.0, floor_of_rest rest.0 (rw end refl) rest.1)
  | inr begins ↦ elim (cases_Bool (list_any (λ (d : Held). not (is_end d.0)) cs)) [
    | inr none ↦ (comparator_version c, first begins (ends-not_after (comparator_version c) cs none))
    | inl some ↦
        let rest = some-floor cs some in
        elim (cases_Bool (begins_after rest.0 c)) [
          | inr below ↦ (rest.0, floor_of_rest rest.0 below rest.1)
          | inl above ↦
              let less : is_lt (precedence rest.0 (comparator_version c)) ≡ true = rw begins at above in (
                comparator_version c,
                first begins (later-not_after rest.0 (comparator_version c) cs
                    (swapped rest.0 (comparator_version c) less) rest.1.greatest),
              )
        ]
  ]
]
  where
    floor_of_rest : (g : Parts) → begins_after g c ≡ false → IsFloor cs g → IsFloor (c ∷ cs) g
    floor_of_rest g h f = record {
      comparator = f.comparator;
      among = Contains-append_right (c ∷ []) cs f.comparator f.among;
      begins = f.begins;
      names = f.names;
      greatest = or-none _ _ h f.greatest;
    }

    first : is_end c.0 ≡ false → one_begins_after cs (comparator_version c) ≡ false
        → IsFloor (c ∷ cs) (comparator_version c)
    first e h = record {
      comparator = c;
      among = (0, omega arith, refl);
      begins = e;
      names = refl;
      greatest = or-none _ _ (after-not (comparator_version c) c (ge-self (comparator_version c))) h;
    }

    ends-not_after : (g : Parts) (ds : List Held) → list_any (λ (d : Held). not (is_end d.0)) ds ≡ false
        → one_begins_after ds g ≡ false
    ends-not_after g [] h = refl
    ends-not_after g (d ∷ ds) h =
        let end : not (is_end d.0) ≡ false = or-left _ _ h in
        or-none _ _ (rw end refl) (ends-not_after g ds (or-right _ _ h))

    swapped : (a b : Parts) → is_lt (precedence a b) ≡ true → is_ge (precedence b a) ≡ true
    swapped a b h = ap is_ge (precedence_total.antisymm b a ∙ ap ordering_reverse (lt-is (precedence a b) h))

-- what holds of none holds not of an element
any-none : {X : Type 0} (p : X → Bool) (xs : List X) (x : X) (k : ℕ) → k < length xs
    → list_any p xs ≡ false → p (slice_index_or xs k x) ≡ false
any-none p [] x k low h = absurd (omega (arith, low))
any-none p (y ∷ ys) x zero low h = or-left _ _ h
any-none p (y ∷ ys) x (suc k) low h = any-none p ys x k (omega (arith, low)) (or-right _ _ h)

-- a version that none begins after is not below the floor
pub floor-below : (cs : List Held) (f g : Parts) → IsFloor cs f → one_begins_after cs g ≡ false
    → is_ge (precedence g f) ≡ true
floor-below cs f g fl h =
    let a = fl.among in
    let here = any-none (begins_after g) cs fl.comparator a.0 a.1 h in
    let none : begins_after g fl.comparator ≡ false = subst
    (λ (x : Held). begins_after g x ≡ false) a.2 here in
    subst (λ (x : Parts). is_ge (precedence g x) ≡ true) (sym fl.names)
    (not-after g fl.comparator fl.begins none)

-- so a version is lower than the floor exactly where one of the comparators begins after it
pub below-floor : (cs : List Held) (f v : Parts) → IsFloor cs f
    → one_begins_after cs v ≡ is_lt (precedence v f)
below-floor cs f v fl = elim (cases_Bool (is_lt (precedence v f))) [
  | inl less ↦ elim (cases_Bool (one_begins_after cs v)) [
    | inl after ↦ after ∙ sym less
    | inr none ↦ cc (sym less ∙ ge-not_lt (precedence v f) (floor-below cs f v fl none))
  ]
  | inr above ↦ later-not_after f v cs (ge-from (precedence v f) above) fl.greatest ∙ sym above
]
