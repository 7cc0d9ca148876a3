-- Parsing the text of a number, date or time gives it back, if what follows may follow a value.
use Rattle.std.proofs.Common.{◌≡◌, ℕ, suc, ◌+◌, nat_le, Bool, true, false, ◌&&◌, ◌||◌, ◌==◌, eqb, List, [], ◌∷◌, ◌++◌, slice_index, Option, Some, None, IfSome, refl, sym, ap, ◌∙◌, true≢false, arith}
use Rattle.std.proofs.lemmas.Bool.{and_parts}
use Rattle.std.proofs.lemmas.Bool.Decides.{nat_tests}
use Rattle.std.specs.List.{prefix_len}
use Rattle.edit_syntax.specs.Characters.{All}
use Rattle.edit_syntax.specs.Numbers.{Sign, no_sign, plus, minus, sign, is_decimal, are_digits, is_decimal_integer, Base, hexadecimal, octal, binary, base_letter, base_digit, Integer, decimal, based, integer_text, IsInteger, Exponent, exponent, IsExponent, optional_exponent, Float, with_fraction, with_exponent, infinite, not_a_number, float_text, IsFloat}
use Rattle.edit_syntax.specs.Grammar.{integer, float}
use Rattle.edit_syntax.specs.ReadingSteps.{first, after}
use Rattle.edit_syntax.specs.ReadingNumbers.{or_underscore, sign_of, past_sign, is_exponent_letter, exponent_at, fraction_read, whole_read, decimal_at, based_at, unsigned_at, number_at}
use Rattle.edit_syntax.proofs.TokenLaws.{after_again}
use Rattle.edit_syntax.proofs.NumberEnds.{is_value_byte, EndsValue, EndsWhole, ends_whole, power_whole, dot_whole, whole_within, digits_again, whole_again, digits_first, whole_first, digit_alone}

-- ---- numbers

sign_again : (s : Sign) (text : List ℕ) → is_decimal (first text) ≡ true → (sign_of (sign s text) ≡ s)
    × (past_sign (sign s text) ≡ text)
sign_again no_sign text h = let d = digit_alone (first text) h in
    (rw (d.no_plus, d.no_dash) refl, rw (d.no_plus, d.no_dash) refl)
sign_again plus text h = (refl, refl)
sign_again minus text h = (refl, refl)

exponent_again : (e : Exponent) (rest : List ℕ) → IsExponent e → or_underscore is_decimal (first rest) ≡ false
    → exponent_at (exponent e rest) ≡ Some (e, rest)
unfolding exponent_at
exponent_again e rest h stops =
    let s = sign_again e.sign (e.digits ++ rest) (digits_first e.digits rest h.1) in
    rw (s.0, s.1, digits_again is_decimal e.digits rest h.1 stops) refl

optional_whole : (e : Option Exponent) (rest : List ℕ) → IfSome e IsExponent → is_value_byte (first rest) ≡ false
    → EndsWhole (first (optional_exponent e rest))
optional_whole None rest h ends = ends_whole (first rest) ends
optional_whole (Some e) rest h ends = power_whole e.letter h.0

no_power : (b : ℕ) → is_value_byte b ≡ false → is_exponent_letter b ≡ false
no_power b h = grind (arith, nat_tests)

no_dot : (b : ℕ) → is_value_byte b ≡ false → eqb b 46 ≡ false
no_dot b h = grind (arith, nat_tests)

power_no_dot : (b : ℕ) → is_exponent_letter b ≡ true → eqb b 46 ≡ false
power_no_dot b h = grind (arith, nat_tests)

fraction_again : (s : Sign) (whole fraction : List ℕ) (e : Option Exponent) (rest : List ℕ)
    → IfSome e IsExponent → is_value_byte (first rest) ≡ false
    → fraction_read s whole fraction (optional_exponent e rest)
    ≡ Some (float (with_fraction s whole fraction e), rest)
unfolding fraction_read
fraction_again s whole fraction None rest h ends = rw (no_power (first rest) ends) refl
fraction_again s whole fraction (Some e) rest h ends =
    rw (h.0, exponent_again e rest h (ends_whole (first rest) ends).no_digit_or_underscore) refl

-- from behind the whole part on
integer_behind : (s : Sign) (whole rest : List ℕ) → is_value_byte (first rest) ≡ false
    → whole_read s whole rest ≡ Some (integer (decimal s whole), rest)
unfolding whole_read
integer_behind s whole rest ends = rw (no_dot (first rest) ends, no_power (first rest) ends) refl

exponent_behind : (s : Sign) (whole : List ℕ) (e : Exponent) (rest : List ℕ) → IsExponent e
    → is_value_byte (first rest) ≡ false → whole_read s whole (exponent e rest)
    ≡ Some (float (with_exponent s whole e), rest)
unfolding whole_read
exponent_behind s whole e rest h ends =
    rw (power_no_dot e.letter h.0, h.0, exponent_again e rest h (ends_whole (first rest) ends).no_digit_or_underscore) refl

fraction_behind : (s : Sign) (whole fraction : List ℕ) (e : Option Exponent) (rest : List ℕ)
    → are_digits is_decimal fraction ≡ true → IfSome e IsExponent → is_value_byte (first rest) ≡ false
    → whole_read s whole (46 ∷ (fraction ++ optional_exponent e rest))
    ≡ Some (float (with_fraction s whole fraction e), rest)
unfolding whole_read
fraction_behind s whole fraction e rest hf h ends =
    rw (
      digits_again is_decimal fraction (optional_exponent e rest) hf (optional_whole e rest h ends).no_digit_or_underscore,
      fraction_again s whole fraction e rest h ends,
    ) refl

decimal_again : (s : Sign) (whole more : List ℕ) → is_decimal_integer whole ≡ true → EndsWhole (first more)
    → decimal_at s (whole ++ more) ≡ whole_read s whole more
unfolding decimal_at
decimal_again s whole more h ends =
    let d = digit_alone (first (whole ++ more)) (whole_first whole more h) in
    rw (d.no_i, d.no_n, whole_again whole more h ends.no_digit_or_underscore) refl

-- what stands behind the run of digits is an underscore, or what follows the whole part
behind_digits : (c : ℕ) (ds more : List ℕ) → eqb 95 c ≡ false → All (or_underscore is_decimal) ds
    → is_decimal (first more) ≡ false → eqb (first more) c ≡ false
    → eqb (first (after is_decimal (ds ++ more))) c ≡ false
behind_digits c [] more bar all stops other = rw (after_again is_decimal [] more tt stops) other
behind_digits c (b ∷ ds) more bar all stops other = go (is_decimal b) refl all.0
    (behind_digits c ds more bar all.1 stops other)
  where
    same : (b : ℕ) → eqb b 95 ≡ true → eqb b c ≡ eqb 95 c
    same b e = ap (λ (x : ℕ). eqb x c) (let k : b ≡ 95 = grind (arith, nat_tests) in k)

    go : (t : Bool) → is_decimal b ≡ t → or_underscore is_decimal b ≡ true
        → eqb (first (after is_decimal (ds ++ more))) c ≡ false
        → eqb (first (after is_decimal (b ∷ (ds ++ more)))) c ≡ false
    go true e m others = let k : 1 + prefix_len is_decimal (ds ++ more)
        ≡ suc (prefix_len is_decimal (ds ++ more)) = omega arith in rw (e, k) others
    go false e m others = let bar2 : eqb b 95 ≡ true = (rw e at m) in rw e (same b bar2 ∙ bar)

-- no prefix of a base
no_prefix : (c : ℕ) (ds more : List ℕ) → is_decimal_integer ds ≡ true → eqb (first more) c ≡ false
    → (eqb (first (ds ++ more)) 48 && eqb (slice_index (ds ++ more) 1) c) ≡ false
no_prefix c [] more h other = absurd (true≢false (sym h))
no_prefix c (b ∷ []) [] h other = rw other (go (eqb b 48))
  where
    go : (t : Bool) → (t && false) ≡ false
    go true = refl
    go false = refl
no_prefix c (b ∷ []) (d ∷ more) h other = rw other (go (eqb b 48))
  where
    go : (t : Bool) → (t && false) ≡ false
    go true = refl
    go false = refl
no_prefix c (b ∷ d ∷ ds) more h other =
    let high = (and_parts (nat_le 49 b) (are_digits is_decimal (b ∷ d ∷ ds)) h).0 in
    let not_zero : eqb b 48 ≡ false = grind (arith, nat_tests) in
    rw not_zero refl

unsigned_again : (whole more : List ℕ) → is_decimal_integer whole ≡ true → EndsWhole (first more)
    → unsigned_at (whole ++ more) ≡ decimal_at no_sign (whole ++ more)
unfolding unsigned_at
unsigned_again whole more h ends =
    let all = whole_within whole h in
    rw (
      behind_digits 45 whole more refl all ends.no_digit ends.no_dash,
      behind_digits 58 whole more refl all ends.no_digit ends.no_colon,
      no_prefix 120 whole more h ends.no_x,
      no_prefix 111 whole more h ends.no_o,
      no_prefix 98 whole more h ends.no_b,
    ) refl

-- what begins with a digit has no sign
pub number_unsigned : (text : List ℕ) → is_decimal (first text) ≡ true → number_at text ≡ unsigned_at text
unfolding number_at
number_unsigned text h = let d = digit_alone (first text) h in rw (d.no_plus, d.no_dash) refl

number_decimal : (s : Sign) (whole more : List ℕ) → is_decimal_integer whole ≡ true → EndsWhole (first more)
    → number_at (sign s (whole ++ more)) ≡ whole_read s whole more
unfolding number_at
number_decimal no_sign whole more h ends = number_unsigned (whole ++ more) (whole_first whole more h) ∙
    unsigned_again whole more h ends ∙ decimal_again no_sign whole more h ends
number_decimal plus whole more h ends = decimal_again plus whole more h ends
number_decimal minus whole more h ends = decimal_again minus whole more h ends

based_again : (b : Base) (digits rest : List ℕ) → are_digits (base_digit b) digits ≡ true
    → or_underscore (base_digit b) (first rest) ≡ false → based_at b (digits ++ rest)
    ≡ Some (integer (based b digits), rest)
unfolding based_at
based_again b digits rest h stops = rw (digits_again (base_digit b) digits rest h stops) refl

base_stops : (b : Base) (c : ℕ) → is_value_byte c ≡ false → or_underscore (base_digit b) c ≡ false
base_stops hexadecimal c h = grind (arith, nat_tests)
base_stops octal c h = grind (arith, nat_tests)
base_stops binary c h = grind (arith, nat_tests)

number_based : (b : Base) (text : List ℕ) → number_at (48 ∷ (base_letter b ∷ text)) ≡ based_at b text
unfolding number_at unsigned_at
number_based hexadecimal text = refl
number_based octal text = refl
number_based binary text = refl

pub integer_again : (n : Integer) (rest : List ℕ) → IsInteger n → EndsValue rest
    → number_at (integer_text n rest) ≡ Some (integer n, rest)
integer_again (decimal s digits) rest h ends = number_decimal s digits rest h
    (ends_whole (first rest) ends.no_value_byte) ∙ integer_behind s digits rest ends.no_value_byte
integer_again (based b digits) rest h ends = number_based b (digits ++ rest) ∙
    based_again b digits rest h (base_stops b (first rest) ends.no_value_byte)

infinite_again : (s : Sign) (rest : List ℕ) → number_at (sign s (105 ∷ (110 ∷ (102 ∷ rest))))
    ≡ Some (float (infinite s), rest)
unfolding number_at unsigned_at decimal_at
infinite_again no_sign rest = refl
infinite_again plus rest = refl
infinite_again minus rest = refl

nan_again : (s : Sign) (rest : List ℕ) → number_at (sign s (110 ∷ (97 ∷ (110 ∷ rest))))
    ≡ Some (float (not_a_number s), rest)
unfolding number_at unsigned_at decimal_at
nan_again no_sign rest = refl
nan_again plus rest = refl
nan_again minus rest = refl

pub float_again : (f : Float) (rest : List ℕ) → IsFloat f → EndsValue rest
    → number_at (float_text f rest) ≡ Some (float f, rest)
float_again (with_fraction s whole fraction e) rest h ends =
    number_decimal s whole (46 ∷ (fraction ++ optional_exponent e rest)) h.0 dot_whole ∙
    fraction_behind s whole fraction e rest h.1 h.2 ends.no_value_byte
float_again (with_exponent s whole e) rest h ends = number_decimal s whole (exponent e rest) h.0
    (power_whole e.letter h.1.0) ∙ exponent_behind s whole e rest h.1 ends.no_value_byte
float_again (infinite s) rest h ends = infinite_again s rest
float_again (not_a_number s) rest h ends = nan_again s rest

-- ---- the first byte

-- what numbers, dates and times begin with
abbrev pub is_start : ℕ → Bool
is_start b = is_decimal b || b == 43 || b == 45 || b == 105 || b == 110

pub start_digit : (b : ℕ) → is_decimal b ≡ true → is_start b ≡ true
start_digit b h = rw h refl

sign_start : (s : Sign) (text : List ℕ) → is_start (first text) ≡ true → is_start (first (sign s text)) ≡ true
sign_start no_sign text h = h
sign_start plus text h = refl
sign_start minus text h = refl

pub integer_start : (n : Integer) (rest : List ℕ) → IsInteger n
    → is_start (first (integer_text n rest)) ≡ true
integer_start (decimal s digits) rest h = sign_start s (digits ++ rest)
    (start_digit (first (digits ++ rest)) (whole_first digits rest h))
integer_start (based b digits) rest h = refl

pub float_start : (f : Float) (rest : List ℕ) → IsFloat f → is_start (first (float_text f rest)) ≡ true
float_start (with_fraction s whole fraction e) rest h =
    let more = 46 ∷ (fraction ++ optional_exponent e rest) in
    sign_start s (whole ++ more) (start_digit (first (whole ++ more)) (whole_first whole more h.0))
float_start (with_exponent s whole e) rest h = sign_start s (whole ++ exponent e rest)
    (start_digit (first (whole ++ exponent e rest)) (whole_first whole (exponent e rest) h.0))
float_start (infinite s) rest h = sign_start s (105 ∷ (110 ∷ (102 ∷ rest))) refl
float_start (not_a_number s) rest h = sign_start s (110 ∷ (97 ∷ (110 ∷ rest))) refl
