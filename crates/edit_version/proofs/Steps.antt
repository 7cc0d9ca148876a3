-- Increments of versions.
use Rattle.std.proofs.Common.{◌≡◌, ◌<◌, ◌+◌, ◌^◌, List, ℕ, Ok, Err, Option, Some, None, true, false, refl, subst, arith, rules, inl, inr, length, lt-ltb, ltb-true}
use Rattle.std.specs.Prelude.{Result, nat_lt}
use Rattle.std.specs.Str.Parse.{ParsesUnsigned, digits_value}
use Rattle.std.proofs.lemmas.Bool.{cases_Bool}
use Rattle.std.proofs.lemmas.Str.Parse.{IsNumeralModel, numerals_by_value, parse_digits}
use Rattle.std.specs.Result.{OkIff}
use Rattle.semver.specs.Grammar.{is_build}
use Rattle.semver.specs.Order.{is_numeric}
use Rattle.semver.specs.Parse.{Parts, only_identifier}
use Rattle.semver.specs.declared.error.Error as semver_error
use Rattle.semver.specs.declared.error.Position.TheVariants as place
use Rattle.semver.proofs.Grammar.{is_build-only}
use Rattle.std.specs.Ordering.{nat_cmp}
use Rattle.std.specs.declared.cmp.Ordering.TheVariants.{Equal, Greater}
use Rattle.edit_version.specs.Increments.{AtEnd, Refused, if_fits, next_major, next_minor, next_patch, number_of}
use Rattle.edit_version.specs.VersionOrder.{full_order}

pub fits-not : (n : ℕ) (v : Parts) → (n < 2 ^ 64 → ⊥) → if_fits n v ≡ Refused AtEnd
fits-not n v h = elim (cases_Bool (nat_lt n (2 ^ 64))) [
  | inl holds ↦ absurd (h (ltb-true n (2 ^ 64) holds))
  | inr fails ↦ rw fails refl
]

pub build-refused : (text : List ℕ) (e : semver_error.Error) → only_identifier place.Build text ≡ Err e
    → is_build text ≡ false
build-refused text e h = elim (cases_Bool (is_build text)) [
  | inl holds ↦ let ok = is_build-only text holds in cc
  | inr fails ↦ fails
]

digits : IsNumeralModel (λ (ds : List ℕ). is_numeric ds ≡ true) (digits_value 10)
digits = numerals_by_value _ (search rules)

pub number-ok : {E : Type 0} (bs : List ℕ) (r : Result ℕ E) (x : ℕ) → ParsesUnsigned 64 10 bs r
    → is_numeric bs ≡ true → r ≡ Ok x → ◌≡◌ {A = Option ℕ} (Some x) (number_of bs)
number-ok bs r x h all e =
    let P : Result ℕ _ → Type 0 = λ z. OkIff z ((0 < length bs) × (digits_value 10 bs < 2 ^ 64))
    (digits_value 10 bs) in
    let k = subst P e (parse_digits digits 64 bs r h all) in
    rw (all, lt-ltb 0 (length bs) k.0.0, lt-ltb (digits_value 10 bs) (2 ^ 64) k.0.1, k.1) refl

pub number-err : {E : Type 0} (bs : List ℕ) (r : Result ℕ E) (x : E) → ParsesUnsigned 64 10 bs r
    → is_numeric bs ≡ true → r ≡ Err x → ◌≡◌ {A = Option ℕ} None (number_of bs)
number-err bs r x h all e =
    let P : Result ℕ _ → Type 0 = λ z. OkIff z ((0 < length bs) × (digits_value 10 bs < 2 ^ 64))
    (digits_value 10 bs) in
    let k = subst P e (parse_digits digits 64 bs r h all) in
    elim (cases_Bool (nat_lt 0 (length bs))) [
      | inl some ↦ elim (cases_Bool (nat_lt (digits_value 10 bs) (2 ^ 64))) [
        | inl small ↦ absurd (k (ltb-true 0 (length bs) some, ltb-true (digits_value 10 bs) (2 ^ 64) small))
        | inr big ↦ rw (all, some, big) refl
      ]
      | inr empty ↦ rw (all, empty) refl
    ]

-- ---- the plain increments give a greater version

above : (n : ℕ) → nat_cmp (n + 1) n ≡ Greater
above n = grind arith

level : (n : ℕ) → nat_cmp n n ≡ Equal
level n = grind arith

-- the next major version is greater
pub greater_major : (v : Parts) → full_order (next_major v) v ≡ Greater
greater_major v = rw (above v.0) refl

-- so is the next minor version
pub greater_minor : (v : Parts) → full_order (next_minor v) v ≡ Greater
greater_minor v = rw (level v.0, above v.1) refl

-- and the next patch version
pub greater_patch : (v : Parts) → full_order (next_patch v) v ≡ Greater
greater_patch v = rw (level v.0, level v.1, above v.2) refl
