-- When a version is not lower than another, and the order that remains where its last comparisons are left
-- out.
use Rattle.std.proofs.Common.{◌≡◌, ℕ, true, false, refl, ap, ◌∙◌, sym, arith, inl, inr}
use Rattle.std.specs.Prelude.{◌⊎◌, ◌==◌, nat_le, nat_lt}
use Rattle.std.specs.Ordering.{is_ge, is_lt, nat_cmp, ordering_reverse, ordering_then}
use Rattle.std.specs.declared.cmp.Ordering.{Ordering}
use Rattle.std.specs.declared.cmp.Ordering.TheVariants.{Less, Equal, Greater}
use Rattle.std.proofs.lemmas.Bool.{cases_Bool}
use Rattle.semver.specs.Parse.{Parts}
use Rattle.edit_version.specs.Laws.{precedence}
use Rattle.edit_version.proofs.Orders.{precedence_total}

-- what is not less is greater or equal
pub ge-from : (r : Ordering) → is_lt r ≡ false → is_ge r ≡ true
ge-from Less h = cc h
ge-from Equal h = refl
ge-from Greater h = refl

-- and back
pub ge-not_lt : (r : Ordering) → is_ge r ≡ true → is_lt r ≡ false
ge-not_lt Less h = cc h
ge-not_lt Equal h = refl
ge-not_lt Greater h = refl

-- less is one order
pub lt-is : (r : Ordering) → is_lt r ≡ true → r ≡ Less
lt-is Less h = refl
lt-is Equal h = cc h
lt-is Greater h = cc h

-- not less is one of two orders
ge-cases : (r : Ordering) → is_ge r ≡ true → (r ≡ Equal) ⊎ (r ≡ Greater)
ge-cases Less h = cc h
ge-cases Equal h = inl refl
ge-cases Greater h = inr refl

-- an order that is its own reverse is not less
self-cases : (r : Ordering) → r ≡ ordering_reverse r → is_ge r ≡ true
self-cases Less e = cc e
self-cases Equal e = refl
self-cases Greater e = refl

-- a version is not lower than itself
pub ge-self : (a : Parts) → is_ge (precedence a a) ≡ true
ge-self a = self-cases (precedence a a) (precedence_total.antisymm a a)

-- not to be less is transitive
pub ge-trans : (a b c : Parts) → is_ge (precedence a b) ≡ true → is_ge (precedence b c) ≡ true
    → is_ge (precedence a c) ≡ true
ge-trans a b c h g = elim (cases_Bool (is_lt (precedence a c))) [
  | inr not_less ↦ ge-from (precedence a c) not_less
  | inl less ↦
      let ac : precedence a c ≡ Less = lt-is (precedence a c) less in
      elim (ge-cases (precedence a b) h) [
        | inl same ↦ cc (sym (ap is_ge ac) ∙ ap is_ge (precedence_total.congr a b c same) ∙ g)
        | inr above ↦
            let ba : precedence b a ≡ Less = precedence_total.antisymm b a ∙ ap ordering_reverse above in
            let bc : precedence b c ≡ Less = precedence_total.trans b a c ba ac in
            cc (sym (ap is_ge bc) ∙ g)
      ]
]

-- an order by several steps is not less by the first two
pub trunc-second : (r s x : Ordering) → is_ge (ordering_then r (ordering_then s x)) ≡ true
    → is_ge (ordering_then r (ordering_then s Equal)) ≡ true
trunc-second Less s x h = cc h
trunc-second Equal Less x h = cc h
trunc-second Equal Equal x h = refl
trunc-second Equal Greater x h = refl
trunc-second Greater s x h = refl

-- nor by the first
pub trunc-first : (r x : Ordering) → is_ge (ordering_then r x) ≡ true → is_ge (ordering_then r Equal) ≡ true
trunc-first Less x h = cc h
trunc-first Equal x h = refl
trunc-first Greater x h = refl

-- a number that is not less
pub not-less : (a n : ℕ) (r : Ordering) → nat_le n a ≡ true → is_ge r ≡ true
    → is_ge (ordering_then (nat_cmp a n) r) ≡ true
not-less a n r h g =
    let one : nat_lt a n ≡ false = grind arith in
    elim (cases_Bool (a == n)) [
      | inl same ↦ rw (one, same) g
      | inr other ↦ rw (one, other) refl
    ]

-- equal numbers
pub le-same : (a n : ℕ) → (a == n) ≡ true → nat_le n a ≡ true
le-same a n h = grind arith

-- no number is below 0
pub le-zero : (a : ℕ) → nat_le 0 a ≡ true
le-zero a = grind arith

-- a number is itself
pub equal-self : (a : ℕ) → (a == a) ≡ true
equal-self a = grind arith
