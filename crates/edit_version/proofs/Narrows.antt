-- An upgraded requirement matches no more than the old one, where that matches the version.
use Rattle.std.proofs.Common.{◌≡◌, ◌∷◌, [], List, ℕ, Option, Some, None, Bool, true, false, refl, ap, ◌∙◌, sym, subst, arith, inl, inr}
use Rattle.std.specs.Prelude.{◌⊎◌, ◌==◌, ◌&&◌, ◌||◌, nat_lt, nat_le, nat_eq, not, if◌then◌else◌}
use Rattle.std.specs.Ordering.{is_ge, ordering_reverse}
use Rattle.std.specs.Cmp.{IsTotalOrder}
use Rattle.std.specs.declared.cmp.Ordering.{Ordering}
use Rattle.std.specs.declared.cmp.Ordering.TheVariants.{Less, Equal, Greater}
use Rattle.semver.specs.Order.{pre_cmp}
use Rattle.semver.specs.OrderLaws.{pre_total, same_text}
use Rattle.std.specs.Prelude.{find, length, map}
use Rattle.std.specs.Cmp.Lexicographic.{pointwise}
use Rattle.std.specs.List.{AllByRecursion, list_all, list_any}
use Rattle.std.proofs.lemmas.Bool.{cases_Bool, eqb-true}
use Rattle.semver.specs.Parse.{Held, Parts}
use Rattle.semver.specs.declared.Op.{Op}
use Rattle.semver.specs.declared.Op.TheVariants as op
use Rattle.edit_version.specs.Admits.{accepts, admits, agrees, caret_after, caret_minor, is_given, names_pre, pre_reaches, tilde_patch}
use Rattle.edit_version.specs.Requirement.{is_inequality, upgraded_comparator, raised_pre, renumbered}
use Rattle.edit_version.proofs.FixedTexts.{none-first}
use Rattle.edit_version.proofs.ComparatorReadings.{read_pre, tidy}
use Rattle.edit_version.proofs.Shapes.{IsShaped}

-- ---- tests

pub left_of : (x y : Bool) → (x && y) ≡ true → x ≡ true
left_of true y h = refl
left_of false y h = cc h

pub right_of : (x y : Bool) → (x && y) ≡ true → y ≡ true
right_of true y h = h
right_of false y h = cc h

pub both : (x y : Bool) → x ≡ true → y ≡ true → (x && y) ≡ true
both x y h g = rw (h, g) refl

equal-trans : (a b c : ℕ) → (b == a) ≡ true → (c == b) ≡ true → (c == a) ≡ true
equal-trans a b c h g = grind arith

-- list order is transitive
lex-trans : (a b c : ℕ) (x y z : Bool) → (x ≡ true → y ≡ true → z ≡ true)
    → (nat_lt a b || ((b == a) && x)) ≡ true → (nat_lt b c || ((c == b) && y)) ≡ true
    → (nat_lt a c || ((c == a) && z)) ≡ true
lex-trans a b c x y z t h g = grind arith

fixed-trans : (n m v0 v1 w1 : ℕ) → (v0 == n) ≡ true → (not (n == 0) || (v1 == m)) ≡ true
    → (not (v0 == 0) || (w1 == v1)) ≡ true
    → (not (n == 0) || (w1 == m)) ≡ true
fixed-trans n m v0 v1 w1 e h g = grind arith

fixed-trans-2 : (n m p v0 v1 v2 w2 : ℕ) → (v0 == n) ≡ true → (not (n == 0) || (v1 == m)) ≡ true
    → (not (n == 0) || not (m == 0) || (v2 == p)) ≡ true
    → (not (v0 == 0) || not (v1 == 0) || (w2 == v2)) ≡ true
    → (not (n == 0) || not (m == 0) || (w2 == p)) ≡ true
fixed-trans-2 n m p v0 v1 v2 w2 e f h g = grind arith

caret-two : (n m v0 v1 w0 w1 : ℕ)
    → ((v0 == n) && (if n == 0 then v1 == m else nat_le m v1)) ≡ true
    → ((w0 == v0) && (if v0 == 0 then w1 == v1 else nat_le v1 w1)) ≡ true
    → ((w0 == n) && (if n == 0 then w1 == m else nat_le m w1)) ≡ true
caret-two n m v0 v1 w0 w1 h g = grind arith

-- ---- pre-releases

ge-cases : (r : Ordering) → is_ge r ≡ true → (r ≡ Equal) ⊎ (r ≡ Greater)
ge-cases Less h = cc h
ge-cases Equal h = inl refl
ge-cases Greater h = inr refl

reverse-less : (r s : Ordering) → r ≡ ordering_reverse s → r ≡ Greater → s ≡ Less
reverse-less r Less e h = refl
reverse-less r Equal e h = cc (sym e ∙ h)
reverse-less r Greater e h = cc (sym e ∙ h)

reverse-greater : (r s : Ordering) → r ≡ ordering_reverse s → s ≡ Less → r ≡ Greater
reverse-greater r s e h = rw (e, h) refl

-- an order that is not below is transitive
ge-trans : {K : Type 0} (R : K → K → Ordering) → IsTotalOrder R → (a b c : K) → is_ge (R a b) ≡ true
    → is_ge (R b c) ≡ true → is_ge (R a c) ≡ true
ge-trans R o a b c h g = elim (ge-cases (R a b) h) [
  | inl same ↦ rw (o.congr a b c same) g
  | inr above ↦ elim (ge-cases (R b c) g) [
    | inl same ↦
        let swapped : R c b ≡ Equal = o.antisymm c b ∙ ap ordering_reverse same in
        let moved : R c a ≡ R b a = o.congr c b a swapped in
        let below : R b a ≡ Less = reverse-less (R a b) (R b a) (o.antisymm a b) above in
        let e : R a c ≡ Greater = reverse-greater (R a c) (R c a) (o.antisymm a c) (moved ∙ below) in
        rw e refl
    | inr more ↦
        let one : R b a ≡ Less = reverse-less (R a b) (R b a) (o.antisymm a b) above in
        let two : R c b ≡ Less = reverse-less (R b c) (R c b) (o.antisymm b c) more in
        let e : R a c ≡ Greater = reverse-greater (R a c) (R c a) (o.antisymm a c) (o.trans c b a two one) in
        rw e refl
  ]
]

pub pre-trans : (a b c : List ℕ) → is_ge (pre_cmp a b) ≡ true → is_ge (pre_cmp b c) ≡ true
    → is_ge (pre_cmp a c) ≡ true
pre-trans a b c h g = ge-trans pre_cmp pre_total a b c h g

self-equal : (r : Ordering) → r ≡ ordering_reverse r → is_ge r ≡ true
self-equal Less e = cc e
self-equal Equal e = refl
self-equal Greater e = cc e

pub pre-self : (a : List ℕ) → is_ge (pre_cmp a a) ≡ true
pre-self a = self-equal _ (pre_total.antisymm a a)

-- ---- one comparator

agrees-trans : (m : Option ℕ) (a b : ℕ) → agrees m a ≡ true → agrees (renumbered m a) b ≡ true
    → agrees m b ≡ true
agrees-trans None a b h g = refl
agrees-trans (Some m) a b h g = equal-trans m a b h g

-- `=`, and a wildcard
same-pre : (p : Option ℕ) (n : ℕ) (pre a b : List ℕ) → (p ≡ None → pre ≡ []) → pointwise nat_eq a pre ≡ true
    → pointwise nat_eq b (read_pre (renumbered p n) a) ≡ true → pointwise nat_eq b pre ≡ true
same-pre None n pre a b none h g = rw (none refl) g
same-pre (Some p) n pre a b none h g = rw (← same_text a pre h) g

wild-pre : (p : Option ℕ) (n : ℕ) (pre b : List ℕ) → p ≡ None → (p ≡ None → pre ≡ [])
    → pointwise nat_eq b (read_pre (renumbered p n) pre) ≡ true → pointwise nat_eq b pre ≡ true
wild-pre None n pre b e none g = rw (none refl) g
wild-pre (Some p) n pre b e none g = cc e

tilde-trans : (p : Option ℕ) (pre : List ℕ) (v w : Parts) → (p ≡ None → pre ≡ []) → tilde_patch p pre v ≡ true
    → tilde_patch (renumbered p v.2) (read_pre (renumbered p v.2) v.3) w ≡ true → tilde_patch p pre w ≡ true
tilde-trans None pre v w none h g = rw (none refl) g
tilde-trans (Some p) pre v w none h g =
    lex-trans p v.2 w.2 (pre_reaches v.3 pre) (pre_reaches w.3 v.3) (pre_reaches w.3 pre)
    (λ x y. pre-trans w.3 v.3 pre y x) h g

caret-full : (n m p : ℕ) (pre : List ℕ) (v w : Parts) → (v.0 == n) ≡ true
    → caret_minor n m (Some p) pre v ≡ true
    → caret_minor v.0 v.1 (Some v.2) v.3 w ≡ true → caret_minor n m (Some p) pre w ≡ true
caret-full n m p pre v w e h g =
    let h1 = left_of _ _ h in
    let g1 = left_of _ _ g in
    let inner : (nat_lt p v.2 || ((v.2 == p) && pre_reaches v.3 pre)) ≡ true
    → (nat_lt v.2 w.2 || ((w.2 == v.2) && pre_reaches w.3 v.3)) ≡ true
    → (nat_lt p w.2 || ((w.2 == p) && pre_reaches w.3 pre)) ≡ true =
    lex-trans p v.2 w.2 (pre_reaches v.3 pre) (pre_reaches w.3 v.3) (pre_reaches w.3 pre)
    (λ x y. pre-trans w.3 v.3 pre y x) in
    let lex = lex-trans m v.1 w.1 _ _ _ inner (left_of _ _ h1) (left_of _ _ g1) in
    let minor = fixed-trans n m v.0 v.1 w.1 e (right_of _ _ h1) (right_of _ _ g1) in
    let patch = fixed-trans-2 n m p v.0 v.1 v.2 w.2 e (right_of _ _ h1) (right_of _ _ h) (right_of _ _ g) in
    both _ _ (both _ _ lex minor) patch

caret-trans : (n : ℕ) (m p : Option ℕ) (pre : List ℕ) (v w : Parts) → (m ≡ None → p ≡ None)
    → (v.0 == n) ≡ true → (w.0 == v.0) ≡ true
    → caret_after n m p pre v ≡ true
    → caret_after v.0 (renumbered m v.1) (renumbered p v.2) (read_pre (renumbered p v.2) v.3) w ≡ true
    → caret_after n m p pre w ≡ true
caret-trans n None p pre v w nested e f h g = refl
caret-trans n (Some m) None pre v w nested e f h g =
    right_of _ _ (caret-two n m v.0 v.1 w.0 w.1 (both _ _ e h) (both _ _ f g))
caret-trans n (Some m) (Some p) pre v w nested e f h g = caret-full n m p pre v w e h g

narrows-of : (o : Op) (n : ℕ) (m p : Option ℕ) (pre : List ℕ) (v w : Parts) → IsShaped (o, n, m, p, pre)
    → is_inequality o ≡ false
    → accepts (o, n, m, p, pre) v ≡ true → accepts (tidy (upgraded_comparator v (o, n, m, p, pre))) w ≡ true
    → accepts (o, n, m, p, pre) w ≡ true
narrows-of op.Exact n m p pre v w s i h g =
    let h1 = left_of _ _ h in
    let g1 = left_of _ _ g in
    let h2 = left_of _ _ h1 in
    let g2 = left_of _ _ g1 in
    both _ _ (both _ _ (both _ _ (equal-trans n v.0 w.0 (left_of _ _ h2) (left_of _ _ g2))
    (agrees-trans m v.1 w.1 (right_of _ _ h2) (right_of _ _ g2)))
    (agrees-trans p v.2 w.2 (right_of _ _ h1) (right_of _ _ g1)))
    (same-pre p v.2 pre v.3 w.3 s.plain (right_of _ _ h) (right_of _ _ g))
narrows-of op.Wildcard n m p pre v w s i h g =
    let h1 = left_of _ _ h in
    let g1 = left_of _ _ g in
    let h2 = left_of _ _ h1 in
    let g2 = left_of _ _ g1 in
    both _ _ (both _ _ (both _ _ (equal-trans n v.0 w.0 (left_of _ _ h2) (left_of _ _ g2))
    (agrees-trans m v.1 w.1 (right_of _ _ h2) (right_of _ _ g2)))
    (agrees-trans p v.2 w.2 (right_of _ _ h1) (right_of _ _ g1)))
    (wild-pre p v.2 pre w.3 (s.starred refl) s.plain (right_of _ _ g))
narrows-of op.Tilde n m p pre v w s i h g =
    let h1 = left_of _ _ h in
    let g1 = left_of _ _ g in
    both _ _ (both _ _ (equal-trans n v.0 w.0 (left_of _ _ h1) (left_of _ _ g1))
    (agrees-trans m v.1 w.1 (right_of _ _ h1) (right_of _ _ g1)))
    (tilde-trans p pre v w s.plain (right_of _ _ h) (right_of _ _ g))
narrows-of op.Caret n m p pre v w s i h g =
    let e = left_of _ _ h in
    let f = left_of _ _ g in
    both _ _ (equal-trans n v.0 w.0 e f)
    (caret-trans n m p pre v w s.nested e f (right_of _ _ h) (right_of _ _ g))
narrows-of op.Greater n m p pre v w s i h g = cc i
narrows-of op.GreaterEq n m p pre v w s i h g = cc i
narrows-of op.Less n m p pre v w s i h g = cc i
narrows-of op.LessEq n m p pre v w s i h g = cc i

-- ---- lists of comparators

narrows-all : (v w : Parts) (cs : List Held) → AllByRecursion IsShaped cs
    → find (λ d. is_inequality d.0) cs ≡ None
    → list_all (λ c. accepts c v) cs ≡ true → list_all (λ c. accepts c w) (map tidy (map (upgraded_comparator v) cs))
    ≡ true
    → list_all (λ c. accepts c w) cs ≡ true
narrows-all v w [] s n h g = refl
narrows-all v w (c ∷ cs) s n h g =
    let i = none-first c cs n in
    both _ _ (narrows-of c.0 c.1 c.2 c.3 c.4 v w s.0 i.0 (left_of _ _ h) (left_of _ _ g))
    (narrows-all v w cs s.1 i.1 (right_of _ _ h) (right_of _ _ g))

given-same : (m : Option ℕ) (a b : ℕ) → is_given (renumbered m a) b ≡ true → a ≡ b
given-same None a b h = cc h
given-same (Some m) a b h = eqb-true a b h

-- a raised comparator that names a pre-release has the version's
pub named-pre : (o : Op) (p : Option ℕ) (own pre : List ℕ) (a b : ℕ) → (o ≡ op.Wildcard → p ≡ None)
    → is_given (renumbered p a) b ≡ true
    → raised_pre o own pre ≡ pre
named-pre op.Exact p own pre a b h g = refl
named-pre op.Greater p own pre a b h g = refl
named-pre op.GreaterEq p own pre a b h g = refl
named-pre op.Less p own pre a b h g = refl
named-pre op.LessEq p own pre a b h g = refl
named-pre op.Tilde p own pre a b h g = refl
named-pre op.Caret p own pre a b h g = refl
named-pre op.Wildcard None own pre a b h g = cc g
named-pre op.Wildcard (Some p) own pre a b h g = cc (h refl)

pub read-given : (p : Option ℕ) (a b : ℕ) (pre : List ℕ) → is_given (renumbered p a) b ≡ true
    → read_pre (renumbered p a) pre ≡ pre
read-given None a b pre h = cc h
read-given (Some p) a b pre h = refl

-- the two versions have the same numbers, and the first a pre-release
abbrev pub HasNumbersOf : Parts → Parts → Type 0
HasNumbersOf v w = (v.0 ≡ w.0) × (v.1 ≡ w.1) × (v.2 ≡ w.2) × ((length v.3 == 0) ≡ false)

not-false : (b : Bool) → not b ≡ true → b ≡ false
not-false true h = cc h
not-false false h = refl

names-one : (v w : Parts) (c : Held) → IsShaped c → names_pre (tidy (upgraded_comparator v c)) w ≡ true
    → HasNumbersOf v w
names-one v w c s h =
    let h1 = left_of _ _ h in
    let h2 = left_of _ _ h1 in
    let patch : is_given (renumbered c.3 v.2) w.2 ≡ true = right_of _ _ h1 in
    let e : read_pre (renumbered c.3 v.2) (raised_pre c.0 c.4 v.3) ≡ v.3 =
    read-given c.3 v.2 w.2 (raised_pre c.0 c.4 v.3) patch ∙
    named-pre c.0 c.3 c.4 v.3 v.2 w.2 s.starred patch in
    let filled = not-false _ (right_of _ _ h) in (
      eqb-true v.0 w.0 (left_of _ _ h2),
      given-same c.2 v.1 w.1 (right_of _ _ h2),
      given-same c.3 v.2 w.2 patch,
      subst (λ (x : List ℕ). (length x == 0) ≡ false) e filled,
    )

pub or-cases : (x y : Bool) → (x || y) ≡ true → (x ≡ true) ⊎ (y ≡ true)
or-cases true y h = inl refl
or-cases false y h = inr h

names-any : (v w : Parts) (cs : List Held) → AllByRecursion IsShaped cs
    → list_any (λ c. names_pre c w) (map tidy (map (upgraded_comparator v) cs)) ≡ true
    → HasNumbersOf v w
names-any v w [] s h = cc h
names-any v w (c ∷ cs) s h = elim (or-cases (names_pre (tidy (upgraded_comparator v c)) w) _ h) [
  | inl here ↦ names-one v w c s.0 here
  | inr later ↦ names-any v w cs s.1 later
]

-- only a version's numbers say which comparators name its pre-release
names-same : (v w : Parts) (cs : List Held) → v.0 ≡ w.0 → v.1 ≡ w.1 → v.2 ≡ w.2
    → list_any (λ c. names_pre c v) cs ≡ list_any (λ c. names_pre c w) cs
names-same v w [] e f g = refl
names-same v w (c ∷ cs) e f g = rw (names-same v w cs e f g, e, f, g) refl

-- the tests on a pre-release
abbrev pub is_allowed : List Held → Parts → Bool
is_allowed cs w = length w.3 == 0 || list_any (λ c. names_pre c w) cs

narrows-pre : (v w : Parts) (cs : List Held) → AllByRecursion IsShaped cs → is_allowed cs v ≡ true
    → is_allowed (map tidy (map (upgraded_comparator v) cs)) w ≡ true → is_allowed cs w ≡ true
narrows-pre v w cs s h g = elim (cases_Bool (length w.3 == 0)) [
  | inl plain ↦ rw plain refl
  | inr filled ↦
      let same = names-any v w cs s (rw filled at g) in
      let mine : list_any (λ c. names_pre c v) cs ≡ true = rw same.3 at h in
      rw filled (sym (names-same v w cs same.0 same.1 same.2) ∙ mine)
]

-- what a raised requirement admits, the old one does, where that admits the version
pub narrows : (v w : Parts) (cs : List Held) → AllByRecursion IsShaped cs
    → find (λ d. is_inequality d.0) cs ≡ None
    → admits cs v ≡ true → admits (map tidy (map (upgraded_comparator v) cs)) w ≡ true → admits cs w ≡ true
narrows v w cs s n h g =
    both _ _ (narrows-all v w cs s n (left_of _ _ h) (left_of _ _ g))
    (narrows-pre v w cs s (right_of _ _ h) (right_of _ _ g))
