-- The text of a well-formed value begins and ends with an ASCII character.
use Rattle.std.proofs.Common.{◌≡◌, ℕ, ◌<◌, ◌≤◌, Bool, true, false, ◌&&◌, ◌||◌, ◌==◌, nat_le, if◌then◌else◌, List, [], ◌∷◌, ◌++◌, length, Option, None, Some, IfSome, refl, sym, ap, ◌∙◌, true≢false, lit<, lit≤, length-append, append_assoc, arith}
use Rattle.std.proofs.lemmas.Bool.{and_parts}
use Rattle.std.proofs.lemmas.Bool.Decides.{nat_tests}
use Rattle.std.specs.List.{AllByRecursion}
use Rattle.std.specs.Char.{is_digit}
use Rattle.edit_syntax.specs.Characters.{quote, apostrophe, left_bracket, right_bracket, left_brace, right_brace, All}
use Rattle.edit_syntax.specs.Strings.{pieces}
use Rattle.edit_syntax.specs.Numbers.{Sign, no_sign, plus, minus, sign, Base, hexadecimal, octal, binary, base_digit, base_letter, is_decimal, are_digits, are_more_digits, is_decimal_integer, Integer, decimal, based, integer_text, IsInteger, Exponent, exponent, IsExponent, optional_exponent, Float, with_fraction, with_exponent, infinite, not_a_number, float_text, IsFloat, Date, Time, date, time, IsDate, IsTime, fraction_text, Offset, local, zulu, shift, offset, IsOffset, DateTime, only_date, only_time, both, datetime_text, IsDateTime}
use Rattle.edit_syntax.specs.Grammar.{gap, Value, basic, literal, multi_basic, multi_literal, boolean, integer, float, datetime, array, inline, value, elements, members, IsValue}
use Rattle.edit_syntax.proofs.PutBefore.{gap_before, elements_before, members_before, value_before, pieces_rest, Behind, behind_one}
use Rattle.edit_syntax.proofs.Cases.{by_test}

pub value_rest : (v : Value) (rest : List ℕ) → value v rest ≡ value v [] ++ rest
value_rest v rest = value_before (Behind rest) (behind_one rest) v rest [] refl

-- the first character and the last one, each of ASCII
pub record IsEnclosed (text : List ℕ) : Type 0 where
  pub first : ℕ
  pub behind : List ℕ
  pub begins : text ≡ first ∷ behind
  pub first_ascii : first < 128
  pub before : List ℕ
  pub last : ℕ
  pub ends : text ≡ before ++ last ∷ []
  pub last_ascii : last < 128

-- ---- texts of ASCII

abbrev pub Ascii : List ℕ → Type 0
Ascii bs = AllByRecursion (λ b. b < 128) bs

ascii_append : (xs ys : List ℕ) → Ascii xs → Ascii ys → Ascii (xs ++ ys)
ascii_append [] ys h g = g
ascii_append (x ∷ xs) ys h g = (h.0, ascii_append xs ys h.1 g)

ascii_last : (b : ℕ) (bs : List ℕ) → Ascii (b ∷ bs) → (before : List ℕ) × (last : ℕ)
    × (b ∷ bs ≡ before ++ last ∷ []) × (last < 128)
ascii_last b [] h = ([], b, refl, h.0)
ascii_last b (c ∷ bs) h = let r = ascii_last c bs h.1 in (b ∷ r.0, r.1, ap (λ (l : List ℕ). b ∷ l) r.2, r.3)

ascii_enclosed : (b : ℕ) (bs : List ℕ) → Ascii (b ∷ bs) → IsEnclosed (b ∷ bs)
ascii_enclosed b bs h = let r = ascii_last b bs h in
    record {
      first = b;
      behind = bs;
      begins = refl;
      first_ascii = h.0;
      before = r.0;
      last = r.1;
      ends = r.2;
      last_ascii = r.3;
    }

-- behind something that is not empty, more does no harm
some_enclosed : (xs : List ℕ) → 0 < length xs → Ascii xs → IsEnclosed xs
some_enclosed [] h g = absurd (omega arith)
some_enclosed (b ∷ bs) h g = ascii_enclosed b bs g

digit_ascii : (b n : ℕ) → n ≤ 36 → is_digit b n ≡ true → b < 128
digit_ascii b n le e = grind (arith, nat_tests)

decimal_ascii : (b : ℕ) → is_decimal b ≡ true → b < 128
decimal_ascii b e = digit_ascii b 10 (lit≤ tt) e

base_ascii : (base : Base) (b : ℕ) → base_digit base b ≡ true → b < 128
base_ascii hexadecimal b e = digit_ascii b 16 (lit≤ tt) e
base_ascii octal b e = digit_ascii b 8 (lit≤ tt) e
base_ascii binary b e = digit_ascii b 2 (lit≤ tt) e

abbrev IsAsciiClass : (ℕ → Bool) → Type 0
IsAsciiClass class = (b : ℕ) → class b ≡ true → b < 128

mutual
  digits_ascii : (class : ℕ → Bool) (ds : List ℕ) → IsAsciiClass class → are_digits class ds ≡ true → Ascii ds
  digits_ascii class [] low e = tt
  digits_ascii class (b ∷ ds) low e = let h = and_parts (class b) (are_more_digits class ds) e in
      (low b h.0, more_ascii class ds low h.1)

  more_ascii : (class : ℕ → Bool) (ds : List ℕ) → IsAsciiClass class → are_more_digits class ds ≡ true
      → Ascii ds
  more_ascii class [] low e = tt
  more_ascii class (b ∷ ds) low e =
      by_test (b == 95)
      (λ h. (
        grind (arith, nat_tests),
        digits_ascii class ds low
            (sym (ap (λ c. if c then are_digits class ds else (class b && are_more_digits class ds)) h) ∙ e),
      ))
      (λ h. let g = and_parts (class b) (are_more_digits class ds)
      (sym (ap (λ c. if c then are_digits class ds else (class b && are_more_digits class ds)) h) ∙ e) in
      (low b g.0, more_ascii class ds low g.1))

digits_some : (class : ℕ → Bool) (ds : List ℕ) → are_digits class ds ≡ true → 0 < length ds
digits_some class [] e = absurd (true≢false (sym e))
digits_some class (b ∷ ds) e = omega arith

whole_ascii : (ds : List ℕ) → is_decimal_integer ds ≡ true → Ascii ds
whole_ascii [] e = tt
whole_ascii (b ∷ []) e = (decimal_ascii b e, tt)
whole_ascii (b ∷ c ∷ ds) e = digits_ascii is_decimal (b ∷ c ∷ ds) decimal_ascii
    (and_parts (nat_le 49 b) (are_digits is_decimal (b ∷ c ∷ ds)) e).1

whole_some : (ds : List ℕ) → is_decimal_integer ds ≡ true → 0 < length ds
whole_some [] e = absurd (true≢false (sym e))
whole_some (b ∷ ds) e = omega arith

-- ---- numbers and dates

-- what is of ASCII and not empty
abbrev pub IsAsciiText : List ℕ → Type 0
IsAsciiText bs = (0 < length bs) × Ascii bs

put_ascii : (xs ys : List ℕ) → 0 < length xs → Ascii xs → Ascii ys → IsAsciiText (xs ++ ys)
put_ascii xs ys some h g = (omega (arith, length-append xs ys), ascii_append xs ys h g)

sign_ascii : (s : Sign) (rest : List ℕ) → IsAsciiText rest → IsAsciiText (sign s rest)
sign_ascii no_sign rest h = h
sign_ascii plus rest h = (omega arith, (lit< tt, h.1))
sign_ascii minus rest h = (omega arith, (lit< tt, h.1))

pub integer_ascii : (n : Integer) → IsInteger n → IsAsciiText (integer_text n [])
integer_ascii (decimal s ds) h = sign_ascii s (ds ++ [])
    (put_ascii ds [] (whole_some ds h) (whole_ascii ds h) tt)
integer_ascii (based b ds) h = (
  omega arith,
  (
    lit< tt,
    (letter b, ascii_append ds [] (digits_ascii (base_digit b) ds (base_ascii b) h) tt),
  ),
)
  where
    letter : (b : Base) → base_letter b < 128
    letter hexadecimal = lit< tt
    letter octal = lit< tt
    letter binary = lit< tt

either_ascii : (b m n : ℕ) → (b == m || b == n) ≡ true → m < 128 → n < 128 → b < 128
either_ascii b m n e h g = grind (arith, nat_tests)

exponent_ascii : (e : Exponent) → IsExponent e → IsAsciiText (exponent e [])
exponent_ascii e h = (
  omega arith,
  (
    either_ascii e.letter 101 69 h.0 (lit< tt) (lit< tt),
    (sign_ascii e.sign (e.digits ++ []) (put_ascii e.digits [] (digits_some is_decimal e.digits h.1)
        (digits_ascii is_decimal e.digits decimal_ascii h.1) tt)).1,
  ),
)

optional_ascii : (e : Option Exponent) → IfSome e IsExponent → Ascii (optional_exponent e [])
optional_ascii None h = tt
optional_ascii (Some e) h = (exponent_ascii e h).1

pub float_ascii : (f : Float) → IsFloat f → IsAsciiText (float_text f [])
float_ascii (with_fraction s w f e) h =
    sign_ascii s _ (put_ascii w _ (whole_some w h.0) (whole_ascii w h.0)
    (lit< tt, ascii_append f _ (digits_ascii is_decimal f decimal_ascii h.1) (optional_ascii e h.2)))
float_ascii (with_exponent s w e) h =
    sign_ascii s _ (put_ascii w _ (whole_some w h.0) (whole_ascii w h.0) (exponent_ascii e h.1).1)
float_ascii (infinite s) h = sign_ascii s _ (omega arith, (lit< tt, (lit< tt, (lit< tt, tt))))
float_ascii (not_a_number s) h = sign_ascii s _ (omega arith, (lit< tt, (lit< tt, (lit< tt, tt))))

all_ascii : (ds : List ℕ) → All is_decimal ds → Ascii ds
all_ascii [] h = tt
all_ascii (d ∷ ds) h = (decimal_ascii d h.0, all_ascii ds h.1)

fraction_ascii : (f : Option (List ℕ)) (rest : List ℕ)
    → IfSome f (λ digits. (0 < length digits) × All is_decimal digits) → Ascii rest
    → Ascii (fraction_text f rest)
fraction_ascii None rest h g = g
fraction_ascii (Some ds) rest h g = (lit< tt, ascii_append ds rest (all_ascii ds h.1) g)

date_ascii : (d : Date) (rest : List ℕ) → IsDate d → Ascii rest → IsAsciiText (date d rest)
date_ascii d rest h g =
    put_ascii d.year _ (omega (arith, h.0.0)) (all_ascii d.year h.0.1) (
      lit< tt,
      ascii_append d.month _ (all_ascii d.month h.1.1)
          (lit< tt, ascii_append d.day _ (all_ascii d.day h.2.1) g),
    )

time_ascii : (t : Time) (rest : List ℕ) → IsTime t → Ascii rest → IsAsciiText (time t rest)
time_ascii t rest h g =
    put_ascii t.hour _ (omega (arith, h.0.0)) (all_ascii t.hour h.0.1) (
      lit< tt,
      ascii_append t.minute _ (all_ascii t.minute h.1.1) (
        lit< tt,
        ascii_append t.second _ (all_ascii t.second h.2.1)
            (fraction_ascii t.fraction rest h.3 g),
      ),
    )

offset_ascii : (o : Offset) → IsOffset o → Ascii (offset o [])
offset_ascii local h = tt
offset_ascii (zulu z) h = (either_ascii z 90 122 h (lit< tt) (lit< tt), tt)
offset_ascii (shift s hour minute) h = (
  either_ascii s 43 45 h.0 (lit< tt) (lit< tt),
  ascii_append hour _ (all_ascii hour h.1.1)
      (lit< tt, ascii_append minute [] (all_ascii minute h.2.1) tt),
)

between_ascii : (b : ℕ) → (b == 84 || b == 116 || b == 32) ≡ true → b < 128
between_ascii b e = grind (arith, nat_tests)

pub datetime_ascii : (d : DateTime) → IsDateTime d → IsAsciiText (datetime_text d [])
datetime_ascii (only_date d) h = date_ascii d [] h tt
datetime_ascii (only_time t) h = time_ascii t [] h tt
datetime_ascii (both d b t o) h =
    date_ascii d _ h.0 (between_ascii b h.1, (time_ascii t _ h.2 (offset_ascii o h.3)).1)

-- ---- values

-- between two characters of ASCII
between_two : (text : List ℕ) (first last : ℕ) (inner : List ℕ) → text ≡ first ∷ (inner ++ last ∷ [])
    → first < 128 → last < 128 → IsEnclosed text
between_two text first last inner e h g = record {
  first = first;
  behind = inner ++ last ∷ [];
  begins = e;
  first_ascii = h;
  before = first ∷ inner;
  last = last;
  ends = e;
  last_ascii = g;
}

pub value_enclosed : (v : Value) → IsValue v → IsEnclosed (value v [])
value_enclosed (basic ps) h = between_two _ quote quote (pieces quote ps [])
    (ap (λ (l : List ℕ). quote ∷ l) (pieces_rest quote ps (quote ∷ []))) (lit< tt) (lit< tt)
value_enclosed (literal t) h = between_two _ apostrophe apostrophe t refl (lit< tt) (lit< tt)
value_enclosed (multi_basic ps) h =
    between_two _ quote quote (quote ∷ (quote ∷ (pieces quote ps [] ++ quote ∷ (quote ∷ []))))
    (ap (λ (l : List ℕ). quote ∷ (quote ∷ (quote ∷ l)))
    (pieces_rest quote ps (quote ∷ (quote ∷ (quote ∷ []))) ∙
    sym (append_assoc (pieces quote ps []) (quote ∷ (quote ∷ [])) (quote ∷ []))))
    (lit< tt) (lit< tt)
value_enclosed (multi_literal ps) h =
    between_two _ apostrophe apostrophe
    (apostrophe ∷ (apostrophe ∷ (pieces apostrophe ps [] ++ apostrophe ∷ (apostrophe ∷ []))))
    (ap (λ (l : List ℕ). apostrophe ∷ (apostrophe ∷ (apostrophe ∷ l)))
    (pieces_rest apostrophe ps (apostrophe ∷ (apostrophe ∷ (apostrophe ∷ []))) ∙
    sym (append_assoc (pieces apostrophe ps []) (apostrophe ∷ (apostrophe ∷ [])) (apostrophe ∷ []))))
    (lit< tt) (lit< tt)
value_enclosed (boolean true) h = between_two _ 116 101 (114 ∷ (117 ∷ [])) refl (lit< tt) (lit< tt)
value_enclosed (boolean false) h = between_two _ 102 101 (97 ∷ (108 ∷ (115 ∷ []))) refl (lit< tt) (lit< tt)
value_enclosed (integer n) h = let r = integer_ascii n h in some_enclosed (integer_text n []) r.0 r.1
value_enclosed (float f) h = let r = float_ascii f h in some_enclosed (float_text f []) r.0 r.1
value_enclosed (datetime d) h = let r = datetime_ascii d h in some_enclosed (datetime_text d []) r.0 r.1
value_enclosed (array g es) h =
    let rest = right_bracket ∷ [] in
    let inner = gap g (elements es []) in
    between_two _ left_bracket right_bracket inner
    (ap (λ (l : List ℕ). left_bracket ∷ l)
    (gap_before (Behind rest) (behind_one rest) g _ _
    (elements_before (Behind rest) (behind_one rest) es rest [] refl))) (lit< tt) (lit< tt)
value_enclosed (inline g ms) h =
    let rest = right_brace ∷ [] in
    let inner = gap g (members ms []) in
    between_two _ left_brace right_brace inner
    (ap (λ (l : List ℕ). left_brace ∷ l)
    (gap_before (Behind rest) (behind_one rest) g _ _
    (members_before (Behind rest) (behind_one rest) ms rest [] refl))) (lit< tt) (lit< tt)
