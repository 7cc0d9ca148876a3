-- A parser of numbers, dates and times, as definitions (TOML 1.0.0, "Integer", "Float", "Offset Date-Time" to
-- "Local Time"). What may follow a value is not checked here but where the value is used.
use Rattle.std.specs.Prelude.{ℕ, Bool, ◌&&◌, ◌||◌, ◌==◌, nat_le, if◌then◌else◌, List, take, drop, slice_index, Option, Some, None}
use Rattle.std.specs.List.{prefix_len}
use Rattle.edit_syntax.specs.Numbers.{Sign, no_sign, plus, minus, is_decimal, are_digits, is_decimal_integer, Base, hexadecimal, octal, binary, base_digit, decimal, based, Exponent, with_fraction, with_exponent, infinite, not_a_number, Date, Time, Offset, local, zulu, shift, only_date, only_time, both}
use Rattle.edit_syntax.specs.Grammar.{Value, integer, float, datetime}
use Rattle.edit_syntax.specs.ReadingSteps.{Read, ◌>>=◌, first, front, after, past}

-- ---- digits

-- a digit of the class or an underscore (own)
abbrev pub or_underscore : (ℕ → Bool) → ℕ → Bool
or_underscore class b = class b || b == 95

-- the longest prefix of digits and underscores, if it is well formed ("Integer", underscores between digits)
unfoldable pub digits_at : (ℕ → Bool) → List ℕ → Read (List ℕ)
digits_at class text = if are_digits class (front (or_underscore class) text)
    then Some (front (or_underscore class) text, after (or_underscore class) text) else None

-- the longest prefix of digits and underscores, if it is a decimal integer without leading zeros ("Integer")
unfoldable pub whole_at : List ℕ → Read (List ℕ)
whole_at text = if is_decimal_integer (front (or_underscore is_decimal) text)
    then Some (front (or_underscore is_decimal) text, after (or_underscore is_decimal) text) else None

-- ---- numbers

-- the optional sign at the front ("Integer", "Float")
abbrev pub sign_of : List ℕ → Sign
sign_of text = if first text == 43 then plus else (if first text == 45 then minus else no_sign)

-- the rest behind an optional sign (own)
abbrev pub past_sign : List ℕ → List ℕ
past_sign text = if first text == 43 || first text == 45 then drop 1 text else text

-- `e` or `E`, which begins an exponent ("Float")
abbrev pub is_exponent_letter : ℕ → Bool
is_exponent_letter b = b == 101 || b == 69

-- an exponent; the input begins with its letter ("Float")
unfoldable pub exponent_at : List ℕ → Read Exponent
exponent_at text = digits_at is_decimal (past_sign (drop 1 text))
    >>= λ d. Some (record { letter = first text; sign = sign_of (drop 1 text); digits = d.0 }, d.1)

-- a float; the input begins behind its fraction ("Float")
unfoldable pub fraction_read : Sign → List ℕ → List ℕ → List ℕ → Read Value
fraction_read s whole fraction text =
    if is_exponent_letter (first text)
    then (exponent_at text >>= λ e. Some (float (with_fraction s whole fraction (Some e.0)), e.1))
    else Some (float (with_fraction s whole fraction None), text)

-- an integer or a float; the input begins behind its integer part ("Integer", "Float")
unfoldable pub whole_read : Sign → List ℕ → List ℕ → Read Value
whole_read s whole text =
    if first text == 46 then (digits_at is_decimal (drop 1 text) >>= λ f. fraction_read s whole f.0 f.1)
    else (if is_exponent_letter (first text)
    then (exponent_at text >>= λ e. Some (float (with_exponent s whole e.0), e.1))
    else Some (integer (decimal s whole), text))

-- the input begins with these three bytes (own)
abbrev pub begins : ℕ → ℕ → ℕ → List ℕ → Bool
begins a b c text = first text == a && slice_index text 1 == b && slice_index text 2 == c

-- a decimal integer or a float; the input begins behind its sign ("Integer", "Float")
unfoldable pub decimal_at : Sign → List ℕ → Read Value
decimal_at s text =
    if begins 105 110 102 text then Some (float (infinite s), drop 3 text)
    else (if begins 110 97 110 text then Some (float (not_a_number s), drop 3 text)
    else (whole_at text >>= λ w. whole_read s w.0 w.1))

-- an integer with a base prefix; the input begins behind the prefix ("Integer")
unfoldable pub based_at : Base → List ℕ → Read Value
based_at b text = digits_at (base_digit b) text >>= λ d. Some (integer (based b d.0), d.1)

-- ---- dates and times

-- n digits ("Local Date", "Local Time")
unfoldable pub count_at : ℕ → List ℕ → Read (List ℕ)
count_at n text = if nat_le n (prefix_len is_decimal text) then Some (take n text, drop n text) else None

-- n digits and then this byte ("Local Date", "Local Time")
unfoldable pub group_at : ℕ → ℕ → List ℕ → Read (List ℕ)
group_at n b text = count_at n text >>= λ d. past b d.1 >>= λ rest. Some (d.0, rest)

-- a date ("Local Date")
unfoldable pub date_at : List ℕ → Read Date
date_at text = group_at 4 45 text >>= λ y. group_at 2 45 y.1 >>= λ m. count_at 2 m.1
    >>= λ d. Some (record { year = y.0; month = m.0; day = d.0 }, d.1)

-- the digits behind a dot, or nothing where there is no dot ("Local Time", fractions of a second)
unfoldable pub second_at : List ℕ → Read (Option (List ℕ))
second_at text =
    if first text == 46
    then (if is_decimal (first (drop 1 text))
    then Some (Some (front is_decimal (drop 1 text)), after is_decimal (drop 1 text)) else None)
    else Some (None, text)

-- a time ("Local Time")
unfoldable pub time_at : List ℕ → Read Time
time_at text =
    group_at 2 58 text >>= λ h. group_at 2 58 h.1 >>= λ m. count_at 2 m.1 >>= λ s. second_at s.1 >>= λ f.
    Some (record { hour = h.0; minute = m.0; second = s.0; fraction = f.0 }, f.1)

-- an optional time offset: `Z` or `z`, or a sign with hours and minutes ("Offset Date-Time")
unfoldable pub offset_at : List ℕ → Read Offset
offset_at text =
    if first text == 90 || first text == 122 then Some (zulu (first text), drop 1 text)
    else (if first text == 43 || first text == 45
    then (group_at 2 58 (drop 1 text) >>= λ h. count_at 2 h.1
    >>= λ m. Some (shift (first text) h.0 m.0, m.1))
    else Some (local, text))

-- the input begins with `T`, `t`, or a space and a digit, which join a time to a date ("Offset Date-Time")
abbrev pub is_time_next : List ℕ → Bool
is_time_next text = first text == 84 || first text == 116 || (first text == 32 && is_decimal (first
    (drop 1 text)))

-- a date and an optional time after it ("Offset Date-Time", "Local Date-Time", "Local Date")
unfoldable pub date_time_at : List ℕ → Read Value
date_time_at text = date_at text >>= λ d.
    if is_time_next d.1 then (time_at (drop 1 d.1) >>= λ t. offset_at t.1
    >>= λ o. Some (datetime (both d.0 (first d.1) t.0 o.0), o.1))
    else Some (datetime (only_date d.0), d.1)

-- a time without a date ("Local Time")
unfoldable pub local_time_at : List ℕ → Read Value
local_time_at text = time_at text >>= λ t. Some (datetime (only_time t.0), t.1)

-- ---- numbers, dates and times

-- a number, date or time without a sign, whose kind its digits and the byte behind them decide (own)
unfoldable pub unsigned_at : List ℕ → Read Value
unsigned_at text =
    if first (after is_decimal text) == 45 then date_time_at text
    else (if first (after is_decimal text) == 58 then local_time_at text
    else (if first text == 48 && slice_index text 1 == 120 then based_at hexadecimal (drop 2 text)
    else (if first text == 48 && slice_index text 1 == 111 then based_at octal (drop 2 text)
    else (if first text == 48 && slice_index text 1 == 98 then based_at binary (drop 2 text)
    else decimal_at no_sign text))))

-- a number, a date or a time (own)
unfoldable pub number_at : List ℕ → Read Value
number_at text =
    if first text == 43 then decimal_at plus (drop 1 text)
    else (if first text == 45 then decimal_at minus (drop 1 text) else unsigned_at text)
