-- The operators and the `-` of an upgraded requirement, and the least version that it matches.
use Rattle.std.proofs.Common.{◌≡◌, ◌<◌, ◌^◌, ◌++◌, ◌∷◌, [], List, ℕ, Option, Some, None, Bool, true, false, length, map, refl, ap, ◌∙◌, sym, subst, arith, inl, inr}
use Rattle.std.specs.Prelude.{◌⊎◌, ◌==◌, ◌&&◌, ◌||◌, not, nat_lt, find, is_some}
use Rattle.std.specs.Fmt.{decimal}
use Rattle.std.specs.List.{AllByRecursion, list_all, list_any}
use Rattle.std.specs.Ordering.{is_ge, nat_cmp, ordering_then}
use Rattle.std.specs.declared.cmp.Ordering.{Ordering}
use Rattle.std.specs.declared.cmp.Ordering.TheVariants.{Equal, Greater}
use Rattle.std.proofs.lemmas.Bool.{cases_Bool, eqb-true}
use Rattle.semver.specs.Order.{pre_cmp}
use Rattle.semver.specs.OrderLaws.{same_text}
use Rattle.semver.specs.Parse.{Held, Parts}
use Rattle.semver.specs.declared.Op.{Op}
use Rattle.semver.specs.declared.Op.TheVariants as op
use Rattle.edit_version.specs.Admits.{accepts, pre_reaches}
use Rattle.edit_version.specs.Laws.{holds_dash, precedence}
use Rattle.edit_version.specs.Requirement.{after_patch, comparator_text, dotted, is_inequality, match_caret, more_text, upgraded_comparator, raised_pre, renumbered, requirement_text, sign, star, starts_with_caret, unsigned_text, without_caret}
use Rattle.edit_version.proofs.Dashes.{dash-append, decimal-no_dash}
use Rattle.edit_version.proofs.FixedTexts.{none-first}
use Rattle.edit_version.proofs.Narrows.{left_of, pre-self, right_of}
use Rattle.edit_version.proofs.ComparatorReadings.{IsSmall, IsWritable, tidy}
use Rattle.edit_version.proofs.Shapes.{IsShaped}

-- ---- operators

pub operators-same : (v : Parts) (cs : List Held) → map (λ c. c.0) (map tidy (map (upgraded_comparator v) cs))
    ≡ map (λ c. c.0) cs
operators-same v [] = refl
operators-same v (c ∷ cs) = ap (λ l. c.0 ∷ l) (operators-same v cs)

-- ---- dashes

star-dash : (o : Op) (p : Option ℕ) → holds_dash (star o p) ≡ false
star-dash op.Exact p = refl
star-dash op.Greater p = refl
star-dash op.GreaterEq p = refl
star-dash op.Less p = refl
star-dash op.LessEq p = refl
star-dash op.Tilde p = refl
star-dash op.Caret p = refl
star-dash op.Wildcard None = refl
star-dash op.Wildcard (Some p) = refl

sign-dash : (o : Op) → holds_dash (sign o) ≡ false
sign-dash op.Exact = refl
sign-dash op.Greater = refl
sign-dash op.GreaterEq = refl
sign-dash op.Less = refl
sign-dash op.LessEq = refl
sign-dash op.Tilde = refl
sign-dash op.Caret = refl
sign-dash op.Wildcard = refl

dotted-dash : (m : Option ℕ) → IsSmall m → holds_dash (dotted m) ≡ false
dotted-dash None small = refl
dotted-dash (Some n) small = decimal-no_dash n small

pre-text-dash : (p : Option ℕ) (pre : List ℕ) → holds_dash (after_patch p pre)
    ≡ (is_some p && not (length pre == 0))
pre-text-dash None pre = refl
pre-text-dash (Some p) [] = refl
pre-text-dash (Some p) (b ∷ rest) = grind arith

or-false : (x : Bool) → (x || false) ≡ x
or-false true = refl
or-false false = refl

comparator_text-dash : (c : Held) → c.1 < 2 ^ 64 → IsSmall c.2 → IsSmall c.3
    → holds_dash (comparator_text c) ≡ (is_some c.3 && not (length c.4 == 0))
comparator_text-dash c major minor patch =
    let rest = after_patch c.3 c.4 ++ star c.0 c.3 in
    let last : holds_dash rest ≡ (is_some c.3 && not (length c.4 == 0)) =
    dash-append (after_patch c.3 c.4) (star c.0 c.3) ∙
    rw (star-dash c.0 c.3) (or-false _ ∙ pre-text-dash c.3 c.4) in
    let third : holds_dash (dotted c.3 ++ rest) ≡ holds_dash rest = dash-append (dotted c.3) rest ∙
    rw (dotted-dash c.3 patch) refl in
    let second : holds_dash (dotted c.2 ++ (dotted c.3 ++ rest)) ≡ holds_dash (dotted c.3 ++ rest) =
    dash-append (dotted c.2) (dotted c.3 ++ rest) ∙ rw (dotted-dash c.2 minor) refl in
    let first : holds_dash (unsigned_text c) ≡ holds_dash (dotted c.2 ++ (dotted c.3 ++ rest)) =
    dash-append (decimal c.1) (dotted c.2 ++ (dotted c.3 ++ rest)) ∙ rw (decimal-no_dash c.1 major) refl in
    let zeroth : holds_dash (comparator_text c) ≡ holds_dash (unsigned_text c) =
    dash-append (sign c.0) (unsigned_text c) ∙ rw (sign-dash c.0) refl in
    zeroth ∙ first ∙ second ∙ third ∙ last

raised-dash : (o : Op) (p : Option ℕ) (own pre : List ℕ) (n : ℕ) → (o ≡ op.Wildcard → p ≡ None)
    → (is_some (renumbered p n) && not (length (raised_pre o own pre) == 0))
    ≡ (is_some p && not (length pre == 0))
raised-dash o None own pre n h = refl
raised-dash op.Exact (Some p) own pre n h = refl
raised-dash op.Greater (Some p) own pre n h = refl
raised-dash op.GreaterEq (Some p) own pre n h = refl
raised-dash op.Less (Some p) own pre n h = refl
raised-dash op.LessEq (Some p) own pre n h = refl
raised-dash op.Tilde (Some p) own pre n h = refl
raised-dash op.Caret (Some p) own pre n h = refl
raised-dash op.Wildcard (Some p) own pre n h = cc (h refl)

one-dash : (v : Parts) (c : Held) → IsShaped c → IsWritable (upgraded_comparator v c)
    → holds_dash (comparator_text (upgraded_comparator v c)) ≡ (is_some c.3 && not (length v.3 == 0))
one-dash v c s w = comparator_text-dash (upgraded_comparator v c) w.major w.minor w.patch ∙
    raised-dash c.0 c.3 c.4 v.3 v.2 s.starred

spread : (x y d : Bool) → ((x && d) || (y && d)) ≡ ((x || y) && d)
spread true true true = refl
spread true true false = refl
spread true false true = refl
spread true false false = refl
spread false y d = refl

comma-dash : (xs : List ℕ) → holds_dash (44 ∷ 32 ∷ xs) ≡ holds_dash xs
comma-dash xs = refl

more-dash : (v : Parts) (cs : List Held) → AllByRecursion IsShaped cs
    → AllByRecursion IsWritable (map (upgraded_comparator v) cs)
    → holds_dash (more_text (map (upgraded_comparator v) cs)) ≡ (list_any (λ d. is_some d.3) cs && not (length v.3 == 0))
more-dash v [] s w = refl
more-dash v (c ∷ cs) s w =
    comma-dash (comparator_text (upgraded_comparator v c) ++ more_text (map (upgraded_comparator v) cs))
    ∙ dash-append (comparator_text (upgraded_comparator v c)) (more_text (map (upgraded_comparator v) cs))
    ∙ rw (one-dash v c s.0 w.0, more-dash v cs s.1 w.1) (spread (is_some c.3) _ _)

without-dash : (xs : List ℕ) → holds_dash (without_caret xs) ≡ holds_dash xs
without-dash [] = refl
without-dash (b ∷ rest) = elim (cases_Bool (b == 94)) [
  | inl caret ↦
      let none : (b == 45) ≡ false = ap (λ (x : ℕ). x == 45) (eqb-true b 94 caret) in
      rw (caret, none) refl
  | inr other ↦ rw other refl
]

led-dash : (old new : List ℕ) → holds_dash (match_caret old new) ≡ holds_dash new
led-dash old new = elim (cases_Bool (starts_with_caret old)) [
  | inl same ↦ rw same refl
  | inr other ↦ rw other (without-dash new)
]

-- a raised text has a dash where a comparator has a patch number and the version a pre-release
pub upgraded_text-dash : (old : List ℕ) (v : Parts) (c : Held) (cs : List Held)
    → AllByRecursion IsShaped (c ∷ cs)
    → AllByRecursion IsWritable (map (upgraded_comparator v) (c ∷ cs))
    → holds_dash (match_caret old (requirement_text (map (upgraded_comparator v) (c ∷ cs))))
    ≡ (list_any (λ d. is_some d.3) (c ∷ cs) && not (length v.3 == 0))
upgraded_text-dash old v c cs s w =
    led-dash old (requirement_text (map (upgraded_comparator v) (c ∷ cs)))
    ∙ dash-append (comparator_text (upgraded_comparator v c)) (more_text (map (upgraded_comparator v) cs))
    ∙ rw (one-dash v c s.0 w.0, more-dash v cs s.1 w.1) (spread (is_some c.3) _ _)

-- ---- the least version

or-cases : (x y : Bool) → (x || y) ≡ true → (x ≡ true) ⊎ (y ≡ true)
or-cases true y h = inl refl
or-cases false y h = inr h

cmp-greater : (a b : ℕ) → nat_lt b a ≡ true → nat_cmp a b ≡ Greater
cmp-greater a b h =
    let one : nat_lt a b ≡ false = grind arith in
    let two : (a == b) ≡ false = grind arith in
    rw (one, two) refl

cmp-equal : (a b : ℕ) → (a == b) ≡ true → nat_cmp a b ≡ Equal
cmp-equal a b h =
    let one : nat_lt a b ≡ false = grind arith in
    rw (one, h) refl

then-equal : (a b : ℕ) (r : Ordering) → (a == b) ≡ true → is_ge r ≡ true
    → is_ge (ordering_then (nat_cmp a b) r) ≡ true
then-equal a b r h g = rw (cmp-equal a b h) g

then-lex : (a b : ℕ) (x : Bool) (r : Ordering) → (nat_lt b a || ((a == b) && x)) ≡ true
    → (x ≡ true → is_ge r ≡ true)
    → is_ge (ordering_then (nat_cmp a b) r) ≡ true
then-lex a b x r h f = elim (or-cases (nat_lt b a) ((a == b) && x) h) [
  | inl above ↦ rw (cmp-greater a b above) refl
  | inr same ↦ then-equal a b r (left_of _ _ same) (f (right_of _ _ same))
]

least-of : (o : Op) (n m p : ℕ) (pre : List ℕ) (v w : Parts) → (o ≡ op.Wildcard → ⊥) → is_inequality o ≡ false
    → accepts (tidy (upgraded_comparator v (o, n, Some m, Some p, pre))) w ≡ true
    → is_ge (precedence w v) ≡ true
least-of op.Exact n m p pre v w u i h =
    let h1 = left_of _ _ h in
    let h2 = left_of _ _ h1 in
    let same : w.3 ≡ v.3 = same_text w.3 v.3 (right_of _ _ h) in
    then-equal w.0 v.0 _ (left_of _ _ h2)
    (then-equal w.1 v.1 _ (right_of _ _ h2) (then-equal w.2 v.2 _ (right_of _ _ h1)
    (subst (λ (x : List ℕ). is_ge (pre_cmp w.3 x) ≡ true) same (pre-self w.3))))
least-of op.Tilde n m p pre v w u i h =
    let h1 = left_of _ _ h in
    then-equal w.0 v.0 _ (left_of _ _ h1) (then-equal w.1 v.1 _ (right_of _ _ h1)
    (then-lex w.2 v.2 (pre_reaches w.3 v.3) (pre_cmp w.3 v.3) (right_of _ _ h) (λ x. x)))
least-of op.Caret n m p pre v w u i h =
    let full = left_of _ _ (left_of _ _ (right_of _ _ h)) in
    then-equal w.0 v.0 _ (left_of _ _ h) (then-lex w.1 v.1 _ _ full
    (λ x. then-lex w.2 v.2 (pre_reaches w.3 v.3) (pre_cmp w.3 v.3) x (λ y. y)))
least-of op.Wildcard n m p pre v w u i h = absurd (u refl)
least-of op.Greater n m p pre v w u i h = cc i
least-of op.GreaterEq n m p pre v w u i h = cc i
least-of op.Less n m p pre v w u i h = cc i
least-of op.LessEq n m p pre v w u i h = cc i

wild-none : (o : Op) (p : Option ℕ) (k : ℕ) → (o ≡ op.Wildcard → p ≡ None) → p ≡ Some k → o ≡ op.Wildcard → ⊥
wild-none o p k h e x = cc (sym (h x) ∙ e)

least-one : (o : Op) (n : ℕ) (m p : Option ℕ) (pre : List ℕ) (v w : Parts) → IsShaped (o, n, m, p, pre)
    → is_inequality o ≡ false
    → is_some p ≡ true → accepts (tidy (upgraded_comparator v (o, n, m, p, pre))) w ≡ true
    → is_ge (precedence w v) ≡ true
least-one o n m None pre v w s i e h = cc e
least-one o n None (Some p) pre v w s i e h = cc (s.nested refl)
least-one o n (Some m) (Some p) pre v w s i e h = least-of o n m p pre v w
    (wild-none o (Some p) p s.starred refl) i h

-- where a comparator has a patch number, no version below the one that it was raised to is admitted
pub least-all : (v w : Parts) (cs : List Held) → AllByRecursion IsShaped cs
    → find (λ d. is_inequality d.0) cs ≡ None
    → list_any (λ d. is_some d.3) cs ≡ true → list_all (λ c. accepts c w) (map tidy (map (upgraded_comparator v) cs))
    ≡ true
    → is_ge (precedence w v) ≡ true
least-all v w [] s n e h = cc e
least-all v w (c ∷ cs) s n e h =
    let i = none-first c cs n in
    elim (or-cases (is_some c.3) (list_any (λ d. is_some d.3) cs) e) [
      | inl here ↦ least-one c.0 c.1 c.2 c.3 c.4 v w s.0 i.0 here (left_of _ _ h)
      | inr later ↦ least-all v w cs s.1 i.1 later (right_of _ _ h)
    ]
