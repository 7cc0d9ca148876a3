-- The syntax of numbers, dates and times (TOML 1.0.0, "Integer", "Float", "Offset Date-Time", "Local
-- Date-Time", "Local Date" and "Local Time"). Whether a date exists is not checked.
use Rattle.std.specs.Prelude.{◌≡◌, ℕ, ◌<◌, Bool, true, false, ◌&&◌, ◌||◌, ◌==◌, nat_le, if◌then◌else◌, List, [], ◌∷◌, length, Option, Some, None, IfSome, ⊤}
use Rattle.std.specs.Char.{is_digit}
use Rattle.edit_syntax.specs.Characters.{space, All}
use Rattle.edit_syntax.specs.Strings.{◌·◌}

-- an optional sign
pub data Sign : Type 0 where
  no_sign : Sign
  plus : Sign
  minus : Sign

-- the text of a sign, before the text that follows
abbrev pub sign : Sign → List ℕ → List ℕ
sign no_sign rest = rest
sign plus rest = 43 ∷ rest
sign minus rest = 45 ∷ rest

-- a decimal digit, 0 to 9
abbrev pub is_decimal : ℕ → Bool
is_decimal b = is_digit b 10

-- digits of a class with single underscores between them
abbrev mutual
  -- a digit and what may follow it
  pub are_digits : (ℕ → Bool) → List ℕ → Bool
  are_digits class [] = false
  are_digits class (b ∷ rest) = class b && are_more_digits class rest

  -- nothing, or a digit or an underscore and a digit, and what may follow it
  pub are_more_digits : (ℕ → Bool) → List ℕ → Bool
  are_more_digits class [] = true
  are_more_digits class (b ∷ rest) =
      if b == 95 then are_digits class rest else (class b && are_more_digits class rest)

-- the digits of a decimal integer: 0, or digits that do not begin with 0 ("Integer", no leading zeros)
abbrev pub is_decimal_integer : List ℕ → Bool
is_decimal_integer [] = false
is_decimal_integer (b ∷ []) = is_decimal b
is_decimal_integer (b ∷ c ∷ rest) = nat_le 49 b && are_digits is_decimal (b ∷ c ∷ rest)

-- the bases that have a prefix ("Integer")
pub data Base : Type 0 where
  hexadecimal : Base
  octal : Base
  binary : Base

-- the letter of the prefix 0x, 0o or 0b
abbrev pub base_letter : Base → ℕ
base_letter hexadecimal = 120
base_letter octal = 111
base_letter binary = 98

-- the digits of a base ("Integer")
abbrev pub base_digit : Base → ℕ → Bool
base_digit hexadecimal = λ b. is_digit b 16
base_digit octal = λ b. is_digit b 8
base_digit binary = λ b. is_digit b 2

-- a decimal integer with its sign, or an integer with the prefix of its base ("Integer")
pub data Integer : Type 0 where
  decimal : Sign → List ℕ → Integer
  based : Base → List ℕ → Integer

-- the text of an integer, before the text that follows
abbrev pub integer_text : Integer → List ℕ → List ℕ
integer_text (decimal s digits) rest = sign s (digits · rest)
integer_text (based b digits) rest = 48 ∷ (base_letter b ∷ (digits · rest))

-- the digits of an integer are those of its base
abbrev pub IsInteger : Integer → Type 0
IsInteger (decimal s digits) = is_decimal_integer digits ≡ true
IsInteger (based b digits) = are_digits (base_digit b) digits ≡ true

-- an exponent: `e` or `E`, an optional sign, and digits ("Float")
pub record Exponent : Type 0 where
  pub letter : ℕ
  pub sign : Sign
  pub digits : List ℕ

-- a float: a decimal integer with a fraction, an exponent or both, or `inf` or `nan` ("Float")
pub data Float : Type 0 where
  with_fraction : Sign → List ℕ → List ℕ → Option Exponent → Float
  with_exponent : Sign → List ℕ → Exponent → Float
  infinite : Sign → Float
  not_a_number : Sign → Float

-- the text of an exponent, before the text that follows
abbrev pub exponent : Exponent → List ℕ → List ℕ
exponent e rest = e.letter ∷ sign e.sign (e.digits · rest)

-- an exponent is well formed: its letter is `e` or `E`, and it has digits
abbrev pub IsExponent : Exponent → Type 0
IsExponent e = ((e.letter == 101 || e.letter == 69) ≡ true) × (are_digits is_decimal e.digits ≡ true)

-- the text of an optional exponent, before the text that follows
abbrev pub optional_exponent : Option Exponent → List ℕ → List ℕ
optional_exponent None rest = rest
optional_exponent (Some e) rest = exponent e rest

-- the text of a float, before the text that follows
abbrev pub float_text : Float → List ℕ → List ℕ
float_text (with_fraction s whole fraction e) rest =
    sign s (whole · 46 ∷ (fraction · optional_exponent e rest))
float_text (with_exponent s whole e) rest = sign s (whole · exponent e rest)
float_text (infinite s) rest = sign s (105 ∷ (110 ∷ (102 ∷ rest)))
float_text (not_a_number s) rest = sign s (110 ∷ (97 ∷ (110 ∷ rest)))

-- a float is well formed: leading zeros are allowed in its fraction and exponent only ("Float")
abbrev pub IsFloat : Float → Type 0
IsFloat (with_fraction s whole fraction e) =
    (is_decimal_integer whole ≡ true) × (are_digits is_decimal fraction ≡ true) × IfSome e IsExponent
IsFloat (with_exponent s whole e) = (is_decimal_integer whole ≡ true) × IsExponent e
IsFloat (infinite s) = ⊤
IsFloat (not_a_number s) = ⊤

-- a date, as DDDD-DD-DD ("Local Date")
pub record Date : Type 0 where
  pub year : List ℕ
  pub month : List ℕ
  pub day : List ℕ

-- a time, as DD:DD:DD with an optional fraction ("Local Time")
pub record Time : Type 0 where
  pub hour : List ℕ
  pub minute : List ℕ
  pub second : List ℕ
  pub fraction : Option (List ℕ)

-- n decimal digits
abbrev pub HasDigits : ℕ → List ℕ → Type 0
HasDigits n text = (length text ≡ n) × All is_decimal text

-- the text of an optional fraction of a second, before the text that follows
abbrev pub fraction_text : Option (List ℕ) → List ℕ → List ℕ
fraction_text None rest = rest
fraction_text (Some digits) rest = 46 ∷ (digits · rest)

-- the text of a date, before the text that follows
abbrev pub date : Date → List ℕ → List ℕ
date d rest = d.year · 45 ∷ (d.month · 45 ∷ (d.day · rest))

-- the text of a time, before the text that follows
abbrev pub time : Time → List ℕ → List ℕ
time t rest = t.hour · 58 ∷ (t.minute · 58 ∷ (t.second · fraction_text t.fraction rest))

-- a date is well formed: four, two and two digits
abbrev pub IsDate : Date → Type 0
IsDate d = HasDigits 4 d.year × HasDigits 2 d.month × HasDigits 2 d.day

-- a time is well formed: two, two and two digits, and digits in the fraction
abbrev pub IsTime : Time → Type 0
IsTime t = HasDigits 2 t.hour × HasDigits 2 t.minute × HasDigits 2 t.second
    × IfSome t.fraction (λ digits. (0 < length digits) × All is_decimal digits)

-- a time offset: none, `Z`, or a sign with hours and minutes ("Offset Date-Time")
pub data Offset : Type 0 where
  local : Offset
  zulu : ℕ → Offset
  shift : ℕ → List ℕ → List ℕ → Offset

-- the text of a time offset, before the text that follows
abbrev pub offset : Offset → List ℕ → List ℕ
offset local rest = rest
offset (zulu z) rest = z ∷ rest
offset (shift s hour minute) rest = s ∷ (hour · 58 ∷ (minute · rest))

-- a time offset is well formed: `Z` or `z`, or `+` or `-` and digits
abbrev pub IsOffset : Offset → Type 0
IsOffset local = ⊤
IsOffset (zulu z) = (z == 90 || z == 122) ≡ true
IsOffset (shift s hour minute) = ((s == 43 || s == 45) ≡ true) × HasDigits 2 hour × HasDigits 2 minute

-- a date, a time, or a date and a time with `T`, `t` or a space between them and an optional time offset
pub data DateTime : Type 0 where
  only_date : Date → DateTime
  only_time : Time → DateTime
  both : Date → ℕ → Time → Offset → DateTime

-- the text of a date or time, before the text that follows
abbrev pub datetime_text : DateTime → List ℕ → List ℕ
datetime_text (only_date d) rest = date d rest
datetime_text (only_time t) rest = time t rest
datetime_text (both d between t o) rest = date d (between ∷ time t (offset o rest))

-- a date or time is well formed
abbrev pub IsDateTime : DateTime → Type 0
IsDateTime (only_date d) = IsDate d
IsDateTime (only_time t) = IsTime t
IsDateTime (both d between t o) =
    IsDate d × ((between == 84 || between == 116 || between == space) ≡ true) × IsTime t × IsOffset o
