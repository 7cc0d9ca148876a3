-- Numbers of days, from how their digits are parsed.
use Rattle.std.proofs.Common.{◌≡◌, ◌<◌, ◌^◌, List, ℕ, Ok, Err, Option, Some, None, true, refl, subst, rules, inl, inr, length, lt-ltb, ltb-true}
use Rattle.std.specs.Prelude.{Result, nat_lt}
use Rattle.std.specs.Str.Parse.{ParsesUnsigned, digits_value}
use Rattle.std.proofs.lemmas.Bool.{cases_Bool}
use Rattle.std.proofs.lemmas.Str.Parse.{IsNumeralModel, numerals_by_value, parse_digits}
use Rattle.std.specs.Result.{OkIff}
use Rattle.semver.specs.Order.{is_numeric}
use Rattle.edit_policy.specs.Values.{days_of}

-- digits are a numeral of their value
digits : IsNumeralModel (λ (ds : List ℕ). is_numeric ds ≡ true) (digits_value 10)
digits = numerals_by_value _ (search rules)

-- digits that are parsed are a number of days
pub days_ok : {E : Type 0} (bs : List ℕ) (r : Result ℕ E) (x : ℕ) → ParsesUnsigned 32 10 bs r
    → is_numeric bs ≡ true → r ≡ Ok x → ◌≡◌ {A = Option ℕ} (Some x) (days_of bs)
days_ok bs r x h all e =
    let P : Result ℕ _ → Type 0 = λ z. OkIff z ((0 < length bs) × (digits_value 10 bs < 2 ^ 32))
    (digits_value 10 bs) in
    let k = subst P e (parse_digits digits 32 bs r h all) in
    rw (all, lt-ltb 0 (length bs) k.0.0, lt-ltb (digits_value 10 bs) (2 ^ 32) k.0.1, k.1) refl

-- and those that are not parsed are none
pub days_err : {E : Type 0} (bs : List ℕ) (r : Result ℕ E) (x : E) → ParsesUnsigned 32 10 bs r
    → is_numeric bs ≡ true → r ≡ Err x → ◌≡◌ {A = Option ℕ} None (days_of bs)
days_err bs r x h all e =
    let P : Result ℕ _ → Type 0 = λ z. OkIff z ((0 < length bs) × (digits_value 10 bs < 2 ^ 32))
    (digits_value 10 bs) in
    let k = subst P e (parse_digits digits 32 bs r h all) in
    elim (cases_Bool (nat_lt 0 (length bs))) [
      | inl some ↦ elim (cases_Bool (nat_lt (digits_value 10 bs) (2 ^ 32))) [
        | inl small ↦ absurd (k (ltb-true 0 (length bs) some, ltb-true (digits_value 10 bs) (2 ^ 32) small))
        | inr big ↦ rw (all, some, big) refl
      ]
      | inr empty ↦ rw (all, empty) refl
    ]
