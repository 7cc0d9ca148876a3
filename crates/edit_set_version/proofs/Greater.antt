-- A requested version that is taken is greater, whatever build metadata it gets.
use Rattle.std.proofs.Common.{◌≡◌, ◌∷◌, [], List, ℕ, Bool, refl, sym, subst, arith, length, inl, inr, eqb-true}
use Rattle.std.specs.Prelude.{◌==◌, Option, Some, None, nat_lt}
use Rattle.std.specs.List.{onto_first, slice_split}
use Rattle.std.specs.Ordering.{nat_cmp, ordering_then}
use Rattle.std.specs.Cmp.Lexicographic.{slice_cmp}
use Rattle.std.specs.declared.cmp.Ordering.{Ordering}
use Rattle.std.specs.declared.cmp.Ordering.TheVariants.{Less, Equal, Greater}
use Rattle.std.proofs.lemmas.Bool.{cases_Bool}
use Rattle.std.proofs.lemmas.List.{nil_from_length}
use Rattle.semver.specs.Grammar.{is_build}
use Rattle.semver.specs.Order.{build_cmp, build_part_cmp, numeric_len, part_class, parts, strip_zeros, value_len, without_zeros}
use Rattle.semver.specs.Parse.{Parts}
use Rattle.edit_version.specs.Increments.{To}
use Rattle.edit_version.specs.Laws.{precedence}
use Rattle.edit_version.specs.VersionOrder.{full_order}
use Rattle.edit_set_version.specs.Bumps.{with_filled_build, fill_requested}

-- ---- no build metadata is the least

-- an order is not `Greater`
abbrev NotGreater : Ordering → Type 0
NotGreater o = o ≡ Greater → ⊥

-- so is one after the other
then-not : (a b : Ordering) → NotGreater a → NotGreater b → NotGreater (ordering_then a b)
then-not Less b h g = h
then-not Equal b h g = g
then-not Greater b h g = h

-- nothing is below zero
zero-not : (n : ℕ) → NotGreater (nat_cmp 0 n)
zero-not n e = elim (cases_Bool (nat_lt 0 n)) [
  | inl less ↦ let f = rw less at e in cc f
  | inr other ↦ elim (cases_Bool (0 == n)) [
    | inl same ↦ let f = rw (other, same) at e in cc f
    | inr differs ↦ absurd (grind (arith, other, differs))
  ]
]

-- or below the empty text
nil-not : (ys : List ℕ) → NotGreater (slice_cmp nat_cmp [] ys)
nil-not [] e = cc e
nil-not (y ∷ ys) e = cc e

-- or below the empty part of build metadata
part-not : (p : List ℕ) → NotGreater (build_part_cmp [] p)
unfolding strip_zeros
part-not p =
    then-not (nat_cmp 0 (part_class p)) _ (zero-not (part_class p))
    (then-not (nat_cmp 0 (value_len p)) _ (zero-not (value_len p))
    (then-not (slice_cmp nat_cmp [] (without_zeros p)) (nat_cmp 0 (numeric_len p))
    (nil-not (without_zeros p)) (zero-not (numeric_len p))))

-- or below no parts
rest-not : (ys : List (List ℕ)) → NotGreater (slice_cmp build_part_cmp [] ys)
rest-not [] e = cc e
rest-not (y ∷ ys) e = cc e

-- or below the one empty part, of some parts
some-not : (ys : List (List ℕ)) → (ys ≡ [] → ⊥) → NotGreater (slice_cmp build_part_cmp ([] ∷ []) ys)
some-not [] h e = absurd (h refl)
some-not (y ∷ ys) h e =
    then-not (build_part_cmp [] y) (slice_cmp build_part_cmp [] ys) (part-not y) (rest-not ys) e

-- a text has at least one part
onto-some : (x : ℕ) (l : List (List ℕ)) → (l ≡ [] → ⊥) → onto_first x l ≡ [] → ⊥
onto-some x [] h e = h refl
onto-some x (f ∷ r) h e = cc e

-- so it is split into some
split-some : (p : ℕ → Bool) (xs : List ℕ) → slice_split p xs ≡ [] → ⊥
split-some p [] e = cc e
split-some p (x ∷ xs) e = elim (cases_Bool (p x)) [
  | inl holds ↦ let f = rw holds at e in cc f
  | inr other ↦ onto-some x (slice_split p xs) (split-some p xs) (rw other at e)
]

-- no build metadata is below none
build-not : (x : List ℕ) → NotGreater (build_cmp [] x)
build-not x = some-not (parts x) (split-some (λ b. b == 46) x)

-- of two orders the first is `Greater` where the second is not
first-greater : (o b : Ordering) → ordering_then o b ≡ Greater → NotGreater b → o ≡ Greater
first-greater Less b e h = cc e
first-greater Equal b e h = absurd (h e)
first-greater Greater b e h = refl

-- a change is to one version
to-is : (a b : Parts) → To a ≡ To b → a ≡ b
to-is a b e = cc e

-- a first order that is `Greater` decides
with-greater : (o : Ordering) (b : Ordering) → o ≡ Greater → ordering_then o b ≡ Greater
with-greater o b e = rw e refl

-- ---- a version with other build metadata

-- filling build metadata in keeps a version greater, where its precedence is
filled-greater : (given : Option (List ℕ)) (current v next : Parts) → precedence v current ≡ Greater
    → with_filled_build given current v ≡ To next → full_order next current ≡ Greater
filled-greater None current v next e h =
    let P : Parts → Type 0 = λ x. full_order x current ≡ Greater in
    subst P (to-is _ next h) (with-greater (precedence v current) _ e)
filled-greater (Some m) current v next e h = elim (cases_Bool (is_build m)) [
  | inl fine ↦
      let P : Parts → Type 0 = λ x. full_order x current ≡ Greater in
      subst P (to-is (v.0, v.1, v.2, v.3, m) next (rw fine at h))
      (with-greater (precedence v current) (build_cmp m current.4) e)
  | inr bad ↦ let f = rw bad at h in cc f
]

-- a greater version that is taken stays greater, whatever its build metadata becomes
pub greater_taken : (given : Option (List ℕ)) (current v next : Parts) → full_order v current ≡ Greater
    → fill_requested given current v ≡ To next → full_order next current ≡ Greater
greater_taken given current v next e h = elim (cases_Bool (length v.4 == 0)) [
  | inl empty ↦
      let bare : v.4 ≡ [] = nil_from_length v.4 (eqb-true (length v.4) 0 empty) in
      let least =
      subst (λ (x : List ℕ). NotGreater (build_cmp x current.4)) (sym bare) (build-not current.4) in
      filled-greater given current v next
      (first-greater (precedence v current) (build_cmp v.4 current.4) e least) (rw empty at h)
  | inr some ↦
      let P : Parts → Type 0 = λ x. full_order x current ≡ Greater in
      subst P (to-is v next (rw some at h)) e
]
