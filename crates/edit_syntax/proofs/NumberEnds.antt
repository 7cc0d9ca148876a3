-- What may follow numbers, dates and times, and the digits in them.
use Rattle.std.proofs.Common.{◌≡◌, ℕ, nat_le, cond, not, Bool, true, false, ◌&&◌, ◌||◌, ◌==◌, eqb, List, [], ◌∷◌, ◌++◌, drop, Some, refl, sym, ap, ◌∙◌, true≢false, arith}
use Rattle.std.proofs.lemmas.Bool.{and_parts}
use Rattle.std.proofs.lemmas.Bool.Decides.{nat_tests}
use Rattle.edit_syntax.specs.Characters.{is_blank, is_bare, All}
use Rattle.edit_syntax.specs.Numbers.{is_decimal, are_digits, are_more_digits, is_decimal_integer}
use Rattle.edit_syntax.specs.ReadingSteps.{first}
use Rattle.edit_syntax.specs.ReadingNumbers.{or_underscore, digits_at, whole_at, is_exponent_letter}
use Rattle.edit_syntax.proofs.TokenLaws.{front_again, after_again}
use Rattle.edit_syntax.proofs.Cases.{by_test}

-- ---- what may follow

-- a byte that numbers, dates and times are made of, but for the space
abbrev pub is_value_byte : ℕ → Bool
is_value_byte b = is_bare b || b == 43 || b == 46 || b == 58

-- a byte that may stand behind a value and the white space after it
abbrev pub is_stop : ℕ → Bool
is_stop b = not (is_value_byte b) && not (is_blank b) && not (b == 34) && not (b == 39)

-- what may follow a value: neither more of it, nor a space and a digit, nor a delimiter of strings
pub record EndsValue (rest : List ℕ) : Type 0 where
  pub no_value_byte : is_value_byte (first rest) ≡ false
  pub no_time : (eqb (first rest) 32 && is_decimal (first (drop 1 rest))) ≡ false
  pub no_quote : eqb (first rest) 34 ≡ false
  pub no_apostrophe : eqb (first rest) 39 ≡ false

pub blank_ends : (b : ℕ) (rest : List ℕ) → is_blank b ≡ true → is_decimal (first rest) ≡ false
    → EndsValue (b ∷ rest)
blank_ends b rest h other = record {
  no_value_byte = grind (arith, nat_tests);
  no_time = rw other (and_false (eqb b 32));
  no_quote = grind (arith, nat_tests);
  no_apostrophe = grind (arith, nat_tests);
}
  where
    and_false : (c : Bool) → (c && false) ≡ false
    and_false true = refl
    and_false false = refl

pub stop_ends : (rest : List ℕ) → is_stop (first rest) ≡ true → EndsValue rest
stop_ends rest h = record {
  no_value_byte = grind (arith, nat_tests);
  no_time = let other : eqb (first rest) 32 ≡ false = grind (arith, nat_tests) in rw other refl;
  no_quote = grind (arith, nat_tests);
  no_apostrophe = grind (arith, nat_tests);
}

pub stop_other : (b : ℕ) → is_stop b ≡ true → is_decimal b ≡ false
stop_other b h = grind (arith, nat_tests)

pub blank_other : (b : ℕ) → is_blank b ≡ true → is_decimal b ≡ false
blank_other b h = grind (arith, nat_tests)

-- white space and then such a byte, or the end
pub ends_value : (a rest : List ℕ) → All is_blank a → is_stop (first rest) ≡ true → EndsValue (a ++ rest)
ends_value [] rest h stop = stop_ends rest stop
ends_value (b ∷ []) rest h stop = blank_ends b rest h.0 (stop_other (first rest) stop)
ends_value (b ∷ c ∷ a) rest h stop = blank_ends b (c ∷ (a ++ rest)) h.0 (blank_other c h.1.0)

-- what may follow the digits of a number's whole part
pub record EndsWhole (b : ℕ) : Type 0 where
  pub no_digit_or_underscore : or_underscore is_decimal b ≡ false
  pub no_digit : is_decimal b ≡ false
  pub no_dash : eqb b 45 ≡ false
  pub no_colon : eqb b 58 ≡ false
  pub no_x : eqb b 120 ≡ false
  pub no_o : eqb b 111 ≡ false
  pub no_b : eqb b 98 ≡ false

pub ends_whole : (b : ℕ) → is_value_byte b ≡ false → EndsWhole b
ends_whole b h = record {
  no_digit_or_underscore = grind (arith, nat_tests);
  no_digit = grind (arith, nat_tests);
  no_dash = grind (arith, nat_tests);
  no_colon = grind (arith, nat_tests);
  no_x = grind (arith, nat_tests);
  no_o = grind (arith, nat_tests);
  no_b = grind (arith, nat_tests);
}

pub power_whole : (b : ℕ) → is_exponent_letter b ≡ true → EndsWhole b
power_whole b h = record {
  no_digit_or_underscore = grind (arith, nat_tests);
  no_digit = grind (arith, nat_tests);
  no_dash = grind (arith, nat_tests);
  no_colon = grind (arith, nat_tests);
  no_x = grind (arith, nat_tests);
  no_o = grind (arith, nat_tests);
  no_b = grind (arith, nat_tests);
}

pub dot_whole : EndsWhole 46
dot_whole = record {
  no_digit_or_underscore = refl;
  no_digit = refl;
  no_dash = refl;
  no_colon = refl;
  no_x = refl;
  no_o = refl;
  no_b = refl;
}

-- ---- digits

class_within : (class : ℕ → Bool) (b : ℕ) → class b ≡ true → or_underscore class b ≡ true
class_within class b h = rw h refl

underscore_within : (class : ℕ → Bool) (b : ℕ) → eqb b 95 ≡ true → or_underscore class b ≡ true
underscore_within class b h = go (class b)
  where
    go : (c : Bool) → (c || eqb b 95) ≡ true
    go true = refl
    go false = h

mutual
  digits_within : (class : ℕ → Bool) (ds : List ℕ) → are_digits class ds ≡ true → All (or_underscore class) ds
  digits_within class [] e = tt
  digits_within class (b ∷ ds) e = let h = and_parts (class b) (are_more_digits class ds) e in
      (class_within class b h.0, more_within class ds h.1)

  more_within : (class : ℕ → Bool) (ds : List ℕ) → are_more_digits class ds ≡ true → All (or_underscore class) ds
  more_within class [] e = tt
  more_within class (b ∷ ds) e =
      by_test (eqb b 95)
      (λ h. (
        underscore_within class b h,
        digits_within class ds
            (sym (ap (λ c. cond c (are_digits class ds) (class b && are_more_digits class ds)) h) ∙ e),
      ))
      (λ h. let g = and_parts (class b) (are_more_digits class ds)
      (sym (ap (λ c. cond c (are_digits class ds) (class b && are_more_digits class ds)) h) ∙ e) in
      (class_within class b g.0, more_within class ds g.1))

pub whole_within : (ds : List ℕ) → is_decimal_integer ds ≡ true → All (or_underscore is_decimal) ds
whole_within [] e = absurd (true≢false (sym e))
whole_within (b ∷ []) e = (class_within is_decimal b e, tt)
whole_within (b ∷ c ∷ ds) e = digits_within is_decimal (b ∷ c ∷ ds)
    (and_parts (nat_le 49 b) (are_digits is_decimal (b ∷ c ∷ ds)) e).1

pub digits_again : (class : ℕ → Bool) (ds rest : List ℕ) → are_digits class ds ≡ true
    → or_underscore class (first rest) ≡ false → digits_at class (ds ++ rest) ≡ Some (ds, rest)
unfolding digits_at
digits_again class ds rest h stops =
    let all = digits_within class ds h in
    rw (front_again (or_underscore class) ds rest all stops, after_again (or_underscore class) ds rest all stops, h)
    refl

pub whole_again : (ds rest : List ℕ) → is_decimal_integer ds ≡ true
    → or_underscore is_decimal (first rest) ≡ false
    → whole_at (ds ++ rest) ≡ Some (ds, rest)
unfolding whole_at
whole_again ds rest h stops =
    let all = whole_within ds h in
    rw (
      front_again (or_underscore is_decimal) ds rest all stops,
      after_again (or_underscore is_decimal) ds rest all stops,
      h,
    ) refl

-- a digit comes first
pub digits_first : (ds rest : List ℕ) → are_digits is_decimal ds ≡ true
    → is_decimal (first (ds ++ rest)) ≡ true
digits_first [] rest e = absurd (true≢false (sym e))
digits_first (b ∷ ds) rest e = (and_parts (is_decimal b) (are_more_digits is_decimal ds) e).0

pub whole_first : (ds rest : List ℕ) → is_decimal_integer ds ≡ true → is_decimal (first (ds ++ rest)) ≡ true
whole_first [] rest e = absurd (true≢false (sym e))
whole_first (b ∷ []) rest e = e
whole_first (b ∷ c ∷ ds) rest e = digits_first (b ∷ c ∷ ds) rest
    (and_parts (nat_le 49 b) (are_digits is_decimal (b ∷ c ∷ ds)) e).1

-- a digit is nothing else
pub record IsDigitAlone (b : ℕ) : Type 0 where
  pub no_plus : eqb b 43 ≡ false
  pub no_dash : eqb b 45 ≡ false
  pub no_dot : eqb b 46 ≡ false
  pub no_i : eqb b 105 ≡ false
  pub no_n : eqb b 110 ≡ false

pub digit_alone : (b : ℕ) → is_decimal b ≡ true → IsDigitAlone b
digit_alone b h = record {
  no_plus = grind (arith, nat_tests);
  no_dash = grind (arith, nat_tests);
  no_dot = grind (arith, nat_tests);
  no_i = grind (arith, nat_tests);
  no_n = grind (arith, nat_tests);
}
