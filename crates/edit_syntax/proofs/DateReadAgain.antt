-- Parsing the text of a date or time gives it back, if what follows may follow a value.
use Rattle.std.proofs.Common.{◌≡◌, ℕ, ◌<◌, ◌≤◌, nat_le, Bool, true, false, ◌&&◌, ◌||◌, eqb, eq-eqb, List, [], ◌∷◌, ◌++◌, length, Option, Some, None, IfSome, refl, ◌∙◌, arith}
use Rattle.std.proofs.lemmas.Bool.Decides.{nat_tests}
use Rattle.std.proofs.lemmas.List.{take_at, drop_at}
use Rattle.std.specs.List.{prefix_len}
use Rattle.edit_syntax.specs.Characters.{All}
use Rattle.edit_syntax.specs.Numbers.{is_decimal, Date, date, IsDate, Time, time, IsTime, HasDigits, fraction_text, Offset, local, zulu, shift, offset, IsOffset, DateTime, only_date, only_time, both, datetime_text, IsDateTime}
use Rattle.edit_syntax.specs.Grammar.{datetime}
use Rattle.edit_syntax.specs.ReadingSteps.{first}
use Rattle.edit_syntax.specs.ReadingNumbers.{count_at, group_at, date_at, second_at, time_at, offset_at, is_time_next, date_time_at, local_time_at, unsigned_at, number_at}
use Rattle.edit_syntax.proofs.TokenLaws.{front_again, after_again}
use Rattle.edit_syntax.proofs.NumberReadAgain.{number_unsigned, is_start, start_digit}
use Rattle.edit_syntax.proofs.NumberEnds.{is_value_byte, EndsValue}

long_run : (class : ℕ → Bool) (ds rest : List ℕ) → All class ds → length ds ≤ prefix_len class (ds ++ rest)
long_run class [] rest h = omega arith
long_run class (d ∷ ds) rest h = rw h.0 (let k = long_run class ds rest h.1 in omega arith)

is_le : (a b : ℕ) → a ≤ b → nat_le a b ≡ true
is_le a b h = grind (arith, nat_tests)

count_again : (n : ℕ) (digits rest : List ℕ) → HasDigits n digits
    → count_at n (digits ++ rest) ≡ Some (digits, rest)
unfolding count_at
count_again n digits rest h =
    let long = long_run is_decimal digits rest h.1 in
    let enough : n ≤ prefix_len is_decimal (digits ++ rest) = let e = h.0 in omega arith in
    rw (
      is_le n (prefix_len is_decimal (digits ++ rest)) enough,
      take_at digits rest n h.0,
      drop_at digits rest n h.0,
    ) refl

group_again : (n b : ℕ) (digits rest : List ℕ) → HasDigits n digits
    → group_at n b (digits ++ (b ∷ rest)) ≡ Some (digits, rest)
unfolding group_at
group_again n b digits rest h = rw (count_again n digits (b ∷ rest) h, eq-eqb b b refl) refl

date_again : (d : Date) (rest : List ℕ) → IsDate d → date_at (date d rest) ≡ Some (d, rest)
unfolding date_at
date_again d rest h =
    rw (
      group_again 4 45 d.year (d.month ++ (45 ∷ (d.day ++ rest))) h.0,
      group_again 2 45 d.month (d.day ++ rest) h.1,
      count_again 2 d.day rest h.2,
    ) refl

-- what may follow a time
record EndsTime (b : ℕ) : Type 0 where
  no_digit : is_decimal b ≡ false
  no_dot : eqb b 46 ≡ false

some_first : (ds rest : List ℕ) → 0 < length ds → All is_decimal ds → is_decimal (first (ds ++ rest)) ≡ true
some_first [] rest some all = absurd (omega arith)
some_first (d ∷ ds) rest some all = all.0

second_again : (f : Option (List ℕ)) (rest : List ℕ)
    → IfSome f (λ digits. (0 < length digits) × All is_decimal digits) → EndsTime (first rest)
    → second_at (fraction_text f rest) ≡ Some (f, rest)
unfolding second_at
second_again None rest h ends = rw ends.no_dot refl
second_again (Some digits) rest h ends =
    rw (
      some_first digits rest h.0 h.1,
      front_again is_decimal digits rest h.1 ends.no_digit,
      after_again is_decimal digits rest h.1 ends.no_digit,
    ) refl

time_again : (t : Time) (rest : List ℕ) → IsTime t → EndsTime (first rest)
    → time_at (time t rest) ≡ Some (t, rest)
unfolding time_at
time_again t rest h ends =
    let tail = t.second ++ fraction_text t.fraction rest in
    rw (
      group_again 2 58 t.hour (t.minute ++ (58 ∷ tail)) h.0,
      group_again 2 58 t.minute tail h.1,
      count_again 2 t.second (fraction_text t.fraction rest) h.2,
      second_again t.fraction rest h.3 ends,
    ) refl

-- what may follow an offset
record EndsOffset (b : ℕ) : Type 0 where
  no_zulu : (eqb b 90 || eqb b 122) ≡ false
  no_shift : (eqb b 43 || eqb b 45) ≡ false

ends_offset : (b : ℕ) → is_value_byte b ≡ false → EndsOffset b
ends_offset b h = record { no_zulu = grind (arith, nat_tests); no_shift = grind (arith, nat_tests) }

ends_time : (b : ℕ) → is_value_byte b ≡ false → EndsTime b
ends_time b h = record { no_digit = grind (arith, nat_tests); no_dot = grind (arith, nat_tests) }

shift_not : (s : ℕ) → (eqb s 43 || eqb s 45) ≡ true → (eqb s 90 || eqb s 122) ≡ false
shift_not s h = grind (arith, nat_tests)

offset_again : (o : Offset) (rest : List ℕ) → IsOffset o → is_value_byte (first rest) ≡ false
    → offset_at (offset o rest) ≡ Some (o, rest)
unfolding offset_at
offset_again local rest h ends = let e = ends_offset (first rest) ends in rw (e.no_zulu, e.no_shift) refl
offset_again (zulu z) rest h ends = rw h refl
offset_again (shift s hour minute) rest h ends =
    rw (shift_not s h.0, h.0, group_again 2 58 hour (minute ++ rest) h.1, count_again 2 minute rest h.2) refl

zulu_time : (z : ℕ) → (eqb z 90 || eqb z 122) ≡ true → EndsTime z
zulu_time z h = record { no_digit = grind (arith, nat_tests); no_dot = grind (arith, nat_tests) }

shift_time : (s : ℕ) → (eqb s 43 || eqb s 45) ≡ true → EndsTime s
shift_time s h = record { no_digit = grind (arith, nat_tests); no_dot = grind (arith, nat_tests) }

offset_time : (o : Offset) (rest : List ℕ) → IsOffset o → is_value_byte (first rest) ≡ false
    → EndsTime (first (offset o rest))
offset_time local rest h ends = ends_time (first rest) ends
offset_time (zulu z) rest h ends = zulu_time z h
offset_time (shift s hour minute) rest h ends = shift_time s h.0

count_first : (n : ℕ) (digits rest : List ℕ) → 0 < n → HasDigits n digits
    → is_decimal (first (digits ++ rest)) ≡ true
count_first n digits rest lt h = some_first digits rest (let e = h.0 in omega arith) h.1

time_first : (t : Time) (rest : List ℕ) → IsTime t → is_decimal (first (time t rest)) ≡ true
time_first t rest h = count_first 2 t.hour _ (omega arith) h.0

date_first : (d : Date) (rest : List ℕ) → IsDate d → is_decimal (first (date d rest)) ≡ true
date_first d rest h = count_first 4 d.year _ (omega arith) h.0

no_join : (rest : List ℕ) → EndsValue rest → is_time_next rest ≡ false
no_join rest ends =
    let t : eqb (first rest) 84 ≡ false = not_big (first rest) ends.no_value_byte in
    let u : eqb (first rest) 116 ≡ false = not_small (first rest) ends.no_value_byte in
    rw (t, u) ends.no_time
  where
    not_big : (b : ℕ) → is_value_byte b ≡ false → eqb b 84 ≡ false
    not_big b h = grind (arith, nat_tests)

    not_small : (b : ℕ) → is_value_byte b ≡ false → eqb b 116 ≡ false
    not_small b h = grind (arith, nat_tests)

does_join : (b : ℕ) (text : List ℕ) → (eqb b 84 || eqb b 116 || eqb b 32) ≡ true
    → is_decimal (first text) ≡ true → is_time_next (b ∷ text) ≡ true
does_join b text h digit = rw digit (with_true (eqb b 84) (eqb b 116) (eqb b 32) h)
  where
    with_true : (x y z : Bool) → (x || y || z) ≡ true → (x || y || (z && true)) ≡ true
    with_true true y z e = refl
    with_true false true z e = refl
    with_true false false true e = refl
    with_true false false false e = e

dated_alone : (d : Date) (rest : List ℕ) → IsDate d → EndsValue rest
    → date_time_at (date d rest) ≡ Some (datetime (only_date d), rest)
unfolding date_time_at
dated_alone d rest h ends = rw (date_again d rest h, no_join rest ends) refl

dated_both : (d : Date) (b : ℕ) (t : Time) (o : Offset) (rest : List ℕ) → IsDateTime (both d b t o)
    → is_value_byte (first rest) ≡ false → date_time_at (date d (b ∷ time t (offset o rest)))
    ≡ Some (datetime (both d b t o), rest)
unfolding date_time_at
dated_both d b t o rest h ends =
    let tail = time t (offset o rest) in
    rw (
      date_again d (b ∷ tail) h.0,
      does_join b tail h.1 (time_first t (offset o rest) h.2),
      time_again t (offset o rest) h.2 (offset_time o rest h.3 ends),
      offset_again o rest h.3 ends,
    ) refl

timed_again : (t : Time) (rest : List ℕ) → IsTime t → is_value_byte (first rest) ≡ false
    → local_time_at (time t rest) ≡ Some (datetime (only_time t), rest)
unfolding local_time_at
timed_again t rest h ends = rw (time_again t rest h (ends_time (first rest) ends)) refl

number_dated : (d : Date) (more : List ℕ) → IsDate d → number_at (date d more) ≡ date_time_at (date d more)
unfolding unsigned_at
number_dated d more h = number_unsigned (date d more) (date_first d more h) ∙
    rw (after_again is_decimal d.year (45 ∷ (d.month ++ (45 ∷ (d.day ++ more)))) h.0.1 refl) refl

number_timed : (t : Time) (more : List ℕ) → IsTime t → number_at (time t more) ≡ local_time_at (time t more)
unfolding unsigned_at
number_timed t more h = number_unsigned (time t more) (time_first t more h) ∙
    rw (after_again is_decimal t.hour (58 ∷ (t.minute ++ (58 ∷ (t.second ++ fraction_text t.fraction more))))
    h.0.1 refl) refl

pub datetime_again : (d : DateTime) (rest : List ℕ) → IsDateTime d → EndsValue rest
    → number_at (datetime_text d rest) ≡ Some (datetime d, rest)
datetime_again (only_date d) rest h ends = number_dated d rest h ∙ dated_alone d rest h ends
datetime_again (only_time t) rest h ends = number_timed t rest h ∙ timed_again t rest h ends.no_value_byte
datetime_again (both d b t o) rest h ends = number_dated d (b ∷ time t (offset o rest)) h.0 ∙
    dated_both d b t o rest h ends.no_value_byte

pub datetime_start : (d : DateTime) (rest : List ℕ) → IsDateTime d
    → is_start (first (datetime_text d rest)) ≡ true
datetime_start (only_date d) rest h = start_digit (first (date d rest)) (date_first d rest h)
datetime_start (only_time t) rest h = start_digit (first (time t rest)) (time_first t rest h)
datetime_start (both d b t o) rest h = let more = b ∷ time t (offset o rest) in
    start_digit (first (date d more)) (date_first d more h.0)
