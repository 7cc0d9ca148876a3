-- The text of an upgraded requirement has no `+`, so cutting at a `+` does not change it.
use Rattle.std.proofs.Common.{◌≡◌, ◌++◌, ◌∷◌, [], List, ℕ, Option, Some, None, true, false, map, refl, ap, ◌∙◌, sym, inl, inr, append-nil}
use Rattle.std.specs.Prelude.{◌==◌}
use Rattle.std.specs.Fmt.{decimal}
use Rattle.std.specs.List.{AllByRecursion}
use Rattle.std.proofs.lemmas.Bool.{cases_Bool, eqb-true}
use Rattle.semver.specs.Grammar.{IsValid, is_pre_release}
use Rattle.semver.specs.Parse.{Held, Parts}
use Rattle.semver.specs.declared.Op.{Op}
use Rattle.semver.specs.declared.Op.TheVariants as op
use Rattle.edit_version.specs.Requirement.{Text, after_patch, comparator_text, cut, dotted, match_caret, more_text, upgrade_of, upgraded_comparator, requirement_text, sign, star, starts_with_caret, plain_text, unsigned_text, without_caret}
use Rattle.edit_version.proofs.Cuts.{cut-before, decimal-no_plus, plain_text-no_plus, plus-append, pre-no_plus}
use Rattle.edit_version.proofs.FixedTexts.{raised-read, raised-reads}
use Rattle.edit_version.proofs.ComparatorReadings.{IsSmall, IsWritable}
use Rattle.edit_version.specs.Laws.{IsVersion, holds_plus}

none-append : (xs ys : List ℕ) → holds_plus xs ≡ false → holds_plus ys ≡ false → holds_plus (xs ++ ys) ≡ false
none-append xs ys h g = plus-append xs ys ∙ rw (h, g) refl

sign-none : (o : Op) → holds_plus (sign o) ≡ false
sign-none op.Exact = refl
sign-none op.Greater = refl
sign-none op.GreaterEq = refl
sign-none op.Less = refl
sign-none op.LessEq = refl
sign-none op.Tilde = refl
sign-none op.Caret = refl
sign-none op.Wildcard = refl

star-none : (o : Op) (p : Option ℕ) → holds_plus (star o p) ≡ false
star-none op.Exact p = refl
star-none op.Greater p = refl
star-none op.GreaterEq p = refl
star-none op.Less p = refl
star-none op.LessEq p = refl
star-none op.Tilde p = refl
star-none op.Caret p = refl
star-none op.Wildcard None = refl
star-none op.Wildcard (Some p) = refl

dotted-none : (m : Option ℕ) → IsSmall m → holds_plus (dotted m) ≡ false
dotted-none None small = refl
dotted-none (Some n) small = decimal-no_plus n small

after-none : (p : Option ℕ) (pre : List ℕ) → ((k : ℕ) → p ≡ Some k → is_pre_release pre ≡ true)
    → holds_plus (after_patch p pre) ≡ false
after-none None pre h = refl
after-none (Some k) pre h = pre-no_plus pre (h k refl)

comparator-none : (c : Held) → IsWritable c → holds_plus (comparator_text c) ≡ false
comparator-none c w =
    let last = none-append (after_patch c.3 c.4) (star c.0 c.3) (after-none c.3 c.4 w.valid)
    (star-none c.0 c.3) in
    let third = none-append (dotted c.3) (after_patch c.3 c.4 ++ star c.0 c.3)
    (dotted-none c.3 w.patch) last in
    let second = none-append (dotted c.2) (dotted c.3 ++ (after_patch c.3 c.4 ++ star c.0 c.3))
    (dotted-none c.2 w.minor) third in
    let first = none-append (decimal c.1)
    (dotted c.2 ++ (dotted c.3 ++ (after_patch c.3 c.4 ++ star c.0 c.3)))
    (decimal-no_plus c.1 w.major) second in
    none-append (sign c.0) (unsigned_text c) (sign-none c.0) first

more-none : (cs : List Held) → AllByRecursion IsWritable cs → holds_plus (more_text cs) ≡ false
more-none [] w = refl
more-none (c ∷ cs) w = none-append (comparator_text c) (more_text cs) (comparator-none c w.0)
    (more-none cs w.1)

without-none : (xs : List ℕ) → holds_plus xs ≡ false → holds_plus (without_caret xs) ≡ false
without-none [] h = refl
without-none (b ∷ rest) h = elim (cases_Bool (b == 94)) [
  | inl caret ↦
      let none : (b == 43) ≡ false = ap (λ (x : ℕ). x == 43) (eqb-true b 94 caret) in
      rw caret (rw none at h)
  | inr other ↦ rw other h
]

led-none : (old xs : List ℕ) → holds_plus xs ≡ false → holds_plus (match_caret old xs) ≡ false
led-none old xs h = elim (cases_Bool (starts_with_caret old)) [
  | inl same ↦ rw same h
  | inr other ↦ rw other (without-none xs h)
]

-- a text without a `+` is cut already
pub cut-none : (xs : List ℕ) → holds_plus xs ≡ false → cut xs ≡ xs
cut-none xs h = ap (λ (l : List ℕ). cut l) (sym (append-nil xs)) ∙ cut-before xs [] h

-- a text that raising writes has no `+`
pub raised-no_plus : (old : List ℕ) (v : Parts) (t : List ℕ) → IsVersion v → upgrade_of old v ≡ Text t
    → holds_plus t ≡ false
raised-no_plus old v t w h =
    let r = raised-read old v t h in
    let all = (raised-reads old v t r.0 r.1 w r.2).1 in
    ap holds_plus r.2.2 ∙ led-none old (requirement_text (map (upgraded_comparator v) (r.0 ∷ r.1)))
    (none-append (comparator_text (upgraded_comparator v r.0)) (more_text (map (upgraded_comparator v) r.1))
    (comparator-none (upgraded_comparator v r.0) all.0) (more-none (map (upgraded_comparator v) r.1) all.1))

-- so cutting leaves it as it is
pub raised-whole : (old : List ℕ) (v : Parts) (t : List ℕ) → IsVersion v → upgrade_of old v ≡ Text t
    → cut t ≡ t
raised-whole old v t w h = cut-none t (raised-no_plus old v t w h)

-- and the text of a version without its build metadata
pub plain-whole : (v : Parts) → IsValid v → cut (plain_text v) ≡ plain_text v
plain-whole v valid = cut-none (plain_text v) (plain_text-no_plus v valid)
