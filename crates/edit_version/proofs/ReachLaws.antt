-- An upgraded requirement matches the version it was upgraded to, and still matches what it matched.
use Rattle.std.proofs.Common.{◌≡◌, ◌∷◌, [], List, ℕ, Option, Some, None, Bool, true, false, refl, ap, ◌∙◌, sym, subst, arith, inl, inr}
use Rattle.std.specs.Prelude.{◌⊎◌, ◌==◌, ◌&&◌, ◌||◌, nat_lt, nat_eq, not}
use Rattle.std.specs.Ordering.{is_ge}
use Rattle.semver.specs.Order.{pre_cmp}
use Rattle.semver.specs.OrderLaws.{pre_cmp-right, same_text}
use Rattle.std.specs.Prelude.{All, IsSome, find, length, map}
use Rattle.std.proofs.lemmas.List.Elements.{All-head, All-tail}
use Rattle.edit_version.specs.Laws.{HasThreeNumbers}
use Rattle.std.specs.Cmp.Lexicographic.{nat_list_eq_equiv, pointwise}
use Rattle.std.specs.List.{AllByRecursion, list_all, list_any}
use Rattle.std.proofs.lemmas.Bool.{cases_Bool, eq-eqb, eqb-true, or_left, or_right}
use Rattle.std.proofs.lemmas.List.{nil_from_length}
use Rattle.semver.specs.Parse.{Held, Parts}
use Rattle.semver.specs.declared.Op.{Op}
use Rattle.semver.specs.declared.Op.TheVariants as op
use Rattle.edit_version.specs.Admits.{accepts, admits, agrees, caret_after, is_given, names_pre, pre_reaches, tilde_patch}
use Rattle.edit_version.specs.Requirement.{is_inequality, upgraded_comparator, raised_pre, renumbered}
use Rattle.edit_version.proofs.FixedTexts.{none-first}
use Rattle.edit_version.proofs.ComparatorReadings.{read_pre, tidy}
use Rattle.edit_version.proofs.Shapes.{IsShaped}
use Rattle.edit_version.proofs.Narrows.{left_of, right_of, both, pre-self, named-pre, read-given, or-cases, is_allowed}

-- ---- reach

-- a comparator that can be raised to this version: it has a patch number, or is a caret, or the version
-- has no pre-release
abbrev pub Reaches : Parts → Held → Type 0
Reaches v c = c.3 ≡ None → (c.0 ≡ op.Caret) ⊎ (v.3 ≡ [])

equal-self : (n : ℕ) → (n == n) ≡ true
equal-self n = eq-eqb n n refl

agrees-self : (m : Option ℕ) (a : ℕ) → agrees (renumbered m a) a ≡ true
agrees-self None a = refl
agrees-self (Some m) a = equal-self a

text-self : (xs : List ℕ) → pointwise nat_eq xs xs ≡ true
text-self xs = nat_list_eq_equiv.refl xs

exact-self : (p : Option ℕ) (a : ℕ) (pre : List ℕ) → (p ≡ None → pre ≡ [])
    → pointwise nat_eq pre (read_pre (renumbered p a) pre) ≡ true
exact-self None a pre h = rw (h refl) refl
exact-self (Some p) a pre h = text-self pre

lex-self : (a : ℕ) (x : Bool) → x ≡ true → (nat_lt a a || ((a == a) && x)) ≡ true
lex-self a x h = rw h (grind arith)

tilde-self : (p : Option ℕ) (v : Parts) → (p ≡ None → v.3 ≡ [])
    → tilde_patch (renumbered p v.2) (read_pre (renumbered p v.2) v.3) v ≡ true
tilde-self None v h = rw (h refl) refl
tilde-self (Some p) v h = lex-self v.2 (pre_reaches v.3 v.3) (pre-self v.3)

caret-self : (m p : Option ℕ) (v : Parts) → (m ≡ None → p ≡ None)
    → caret_after v.0 (renumbered m v.1) (renumbered p v.2) (read_pre (renumbered p v.2) v.3) v ≡ true
caret-self None p v h = refl
caret-self (Some m) None v h = grind arith
caret-self (Some m) (Some p) v h =
    let inner = lex-self v.2 (pre_reaches v.3 v.3) (pre-self v.3) in
    let outer = lex-self v.1 _ inner in
    rw (outer, equal-self v.1, equal-self v.2) (grind arith)

plain-of : (o : Op) (p : Option ℕ) (x : List ℕ) → (o ≡ op.Caret → ⊥) → (p ≡ None → (o ≡ op.Caret) ⊎ (x ≡ []))
    → p ≡ None → x ≡ []
plain-of o p x n h e = elim (h e) [
  | inl caret ↦ absurd (n caret)
  | inr none ↦ none
]

wild-self : (p : Option ℕ) (a : ℕ) (own x : List ℕ) → p ≡ None → x ≡ []
    → pointwise nat_eq x (read_pre (renumbered p a) own) ≡ true
wild-self None a own x e h = rw h refl
wild-self (Some p) a own x e h = cc e

accepts-self : (o : Op) (n : ℕ) (m p : Option ℕ) (pre : List ℕ) (v : Parts) → IsShaped (o, n, m, p, pre)
    → is_inequality o ≡ false
    → Reaches v (o, n, m, p, pre) → accepts (tidy (upgraded_comparator v (o, n, m, p, pre))) v ≡ true
accepts-self op.Exact n m p pre v s i h =
    both _ _ (both _ _ (both _ _ (equal-self v.0) (agrees-self m v.1)) (agrees-self p v.2))
    (exact-self p v.2 v.3 (plain-of op.Exact p v.3 (λ e. cc e) h))
accepts-self op.Wildcard n m p pre v s i h =
    both _ _ (both _ _ (both _ _ (equal-self v.0) (agrees-self m v.1)) (agrees-self p v.2))
    (wild-self p v.2 pre v.3 (s.starred refl) (plain-of op.Wildcard p v.3 (λ e. cc e) h (s.starred refl)))
accepts-self op.Tilde n m p pre v s i h =
    both _ _ (both _ _ (equal-self v.0) (agrees-self m v.1))
    (tilde-self p v (plain-of op.Tilde p v.3 (λ e. cc e) h))
accepts-self op.Caret n m p pre v s i h = both _ _ (equal-self v.0) (caret-self m p v s.nested)
accepts-self op.Greater n m p pre v s i h = cc i
accepts-self op.GreaterEq n m p pre v s i h = cc i
accepts-self op.Less n m p pre v s i h = cc i
accepts-self op.LessEq n m p pre v s i h = cc i

reaches-all : (v : Parts) (cs : List Held) → AllByRecursion IsShaped cs
    → find (λ d. is_inequality d.0) cs ≡ None
    → AllByRecursion (Reaches v) cs → list_all (λ c. accepts c v) (map tidy (map (upgraded_comparator v) cs)) ≡ true
reaches-all v [] s n h = refl
reaches-all v (c ∷ cs) s n h =
    let i = none-first c cs n in
    both _ _ (accepts-self c.0 c.1 c.2 c.3 c.4 v s.0 i.0 h.0) (reaches-all v cs s.1 i.1 h.1)

-- ---- what a version of three numbers meets

some-given : (m : Option ℕ) (x : ℕ) → is_given m x ≡ true → IsSome m
some-given None x h = cc h
some-given (Some m) x h = refl

given-self : (m : Option ℕ) (a : ℕ) → IsSome m → is_given (renumbered m a) a ≡ true
given-self None a h = cc h
given-self (Some m) a h = equal-self a

not-true : (b : Bool) → b ≡ false → not b ≡ true
not-true b h = rw h refl

named-self : (v : Parts) (c : Held) → IsShaped c → IsSome c.2 → IsSome c.3 → (length v.3 == 0) ≡ false
    → names_pre (tidy (upgraded_comparator v c)) v ≡ true
named-self v c s m p filled =
    let patch = given-self c.3 v.2 p in
    let e : read_pre (renumbered c.3 v.2) (raised_pre c.0 c.4 v.3) ≡ v.3 =
    read-given c.3 v.2 v.2 (raised_pre c.0 c.4 v.3) patch ∙
    named-pre c.0 c.3 c.4 v.3 v.2 v.2 s.starred patch in
    both _ _ (both _ _ (both _ _ (equal-self v.0) (given-self c.2 v.1 m)) patch)
    (not-true _ (subst (λ (x : List ℕ). (length x == 0) ≡ false) (sym e) filled))

keeps-any : (v : Parts) (cs : List Held) → AllByRecursion IsShaped cs → (length v.3 == 0) ≡ false
    → list_any (λ c. names_pre c v) cs ≡ true
    → list_any (λ c. names_pre c v) (map tidy (map (upgraded_comparator v) cs)) ≡ true
keeps-any v [] s filled h = cc h
keeps-any v (c ∷ cs) s filled h = elim (or-cases (names_pre c v) _ h) [
  | inl here ↦
      let h1 = left_of _ _ here in
      or_left _ _ (named-self v c s.0 (some-given c.2 v.1 (right_of _ _ (left_of _ _ h1)))
      (some-given c.3 v.2 (right_of _ _ h1)) filled)
  | inr later ↦ or_right _ _ (keeps-any v cs s.1 filled later)
]

keeps-allowed : (v : Parts) (cs : List Held) → AllByRecursion IsShaped cs → is_allowed cs v ≡ true
    → is_allowed (map tidy (map (upgraded_comparator v) cs)) v ≡ true
keeps-allowed v cs s h = elim (cases_Bool (length v.3 == 0)) [
  | inl plain ↦ rw plain refl
  | inr filled ↦ rw filled (keeps-any v cs s filled (rw filled at h))
]

-- a version that a comparator accepts can be reached by it
no-pre : (x : List ℕ) → is_ge (pre_cmp x []) ≡ true → x ≡ []
no-pre x h = elim (cases_Bool (length x == 0)) [
  | inl plain ↦ nil_from_length x (eqb-true _ _ plain)
  | inr filled ↦ cc (ap (λ r. is_ge r) (sym (pre_cmp-right x [] filled refl)) ∙ h)
]

accepted-reaches : (o : Op) (n : ℕ) (m p : Option ℕ) (pre : List ℕ) (v : Parts) → IsShaped (o, n, m, p, pre)
    → is_inequality o ≡ false
    → accepts (o, n, m, p, pre) v ≡ true → Reaches v (o, n, m, p, pre)
accepted-reaches op.Exact n m p pre v s i h e =
    inr (same_text v.3 [] (subst (λ (x : List ℕ). pointwise nat_eq v.3 x ≡ true) (s.plain e)
    (right_of _ _ h)))
accepted-reaches op.Wildcard n m p pre v s i h e =
    inr (same_text v.3 [] (subst (λ (x : List ℕ). pointwise nat_eq v.3 x ≡ true) (s.plain e)
    (right_of _ _ h)))
accepted-reaches op.Tilde n m None pre v s i h e =
    inr (no-pre v.3 (subst (λ (x : List ℕ). pre_reaches v.3 x ≡ true) (s.plain e) (right_of _ _ h)))
accepted-reaches op.Tilde n m (Some p) pre v s i h e = cc e
accepted-reaches op.Caret n m p pre v s i h e = inl refl
accepted-reaches op.Greater n m p pre v s i h e = cc i
accepted-reaches op.GreaterEq n m p pre v s i h e = cc i
accepted-reaches op.Less n m p pre v s i h e = cc i
accepted-reaches op.LessEq n m p pre v s i h e = cc i

accepted-reaches-all : (v : Parts) (cs : List Held) → AllByRecursion IsShaped cs
    → find (λ d. is_inequality d.0) cs ≡ None
    → list_all (λ c. accepts c v) cs ≡ true → AllByRecursion (Reaches v) cs
accepted-reaches-all v [] s n h = tt
accepted-reaches-all v (c ∷ cs) s n h =
    let i = none-first c cs n in (
      accepted-reaches c.0 c.1 c.2 c.3 c.4 v s.0 i.0 (left_of _ _ h),
      accepted-reaches-all v cs s.1 i.1 (right_of _ _ h),
    )

-- a raised requirement admits a version that the old one admits
pub keeps : (v : Parts) (cs : List Held) → AllByRecursion IsShaped cs
    → find (λ d. is_inequality d.0) cs ≡ None
    → admits cs v ≡ true → admits (map tidy (map (upgraded_comparator v) cs)) v ≡ true
keeps v cs s n h =
    both _ _ (reaches-all v cs s n (accepted-reaches-all v cs s n (left_of _ _ h)))
    (keeps-allowed v cs s (right_of _ _ h))

plain-reaches : (v : Parts) (cs : List Held) → v.3 ≡ [] → AllByRecursion (Reaches v) cs
plain-reaches v [] h = tt
plain-reaches v (c ∷ cs) h = (λ e. inr h, plain-reaches v cs h)

-- and one with no pre-release
pub reaches-plain : (v : Parts) (cs : List Held) → AllByRecursion IsShaped cs
    → find (λ d. is_inequality d.0) cs ≡ None
    → v.3 ≡ [] → admits (map tidy (map (upgraded_comparator v) cs)) v ≡ true
reaches-plain v cs s n h =
    let plain : (length v.3 == 0) ≡ true = rw h refl in
    both _ _ (reaches-all v cs s n (plain-reaches v cs h)) (or_left _ _ plain)

three-reaches : (v : Parts) (cs : List Held) → All HasThreeNumbers cs → AllByRecursion (Reaches v) cs
three-reaches v [] h = tt
three-reaches v (c ∷ cs) h =
    let first : IsSome c.3 = (All-head HasThreeNumbers c cs h).1 in (
      λ e. cc (subst (λ (x : Option ℕ). IsSome x) e first),
      three-reaches v cs (All-tail HasThreeNumbers c cs h),
    )

-- and any, where its comparators have three numbers
pub reaches-three : (v : Parts) (c : Held) (cs : List Held) → AllByRecursion IsShaped (c ∷ cs)
    → find (λ d. is_inequality d.0) (c ∷ cs) ≡ None
    → All HasThreeNumbers (c ∷ cs) → admits (map tidy (map (upgraded_comparator v) (c ∷ cs))) v ≡ true
reaches-three v c cs s n h =
    let first = All-head HasThreeNumbers c cs h in
    both _ _ (reaches-all v (c ∷ cs) s n (three-reaches v (c ∷ cs) h))
    (elim (cases_Bool (length v.3 == 0)) [
      | inl plain ↦ or_left _ _ plain
      | inr filled ↦ or_right _ _ (or_left _ _ (named-self v c s.0 first.0 first.1 filled))
    ])
