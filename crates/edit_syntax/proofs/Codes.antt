-- The value of hexadecimal digits, digit by digit.
use Rattle.std.proofs.Common.{◌≡◌, ℕ, suc, ◌+◌, ◌*◌, ◌^◌, ◌<◌, ◌≤◌, true, false, cond, ◌&&◌, eqb, List, ◌∷◌, length, take, drop, get_or, Option, Some, None, refl, sym, ap, ◌∙◌, arith, drop-cons, add-one, eq-eqb}
use Rattle.std.specs.List.{list_all}
use Rattle.std.specs.Char.{digit_value}
use Rattle.std.specs.Str.Parse.{digits_value_after}
use Rattle.std.proofs.lemmas.Bool.Decides.{nat_tests}
use Rattle.std.proofs.Math.Nat.{pow-le-pow_right}
use Rattle.std.proofs.lemmas.Grind.{pow_more}
use Rattle.std.proofs.lemmas.List.{length-take, length-take-le}
use Rattle.edit_syntax.specs.Strings.{Piece, is_hex, is_scalar}
use Rattle.edit_syntax.specs.Reading.{◌>>=◌, scalar, scalar_escape_at}
use Rattle.edit_syntax.proofs.Loops.{rest_of}

-- what these digits name behind those of a number
abbrev pub scalar_after : ℕ → List ℕ → Option ℕ
scalar_after code rest = cond (list_all is_hex rest && is_scalar (digits_value_after 16 code rest))
    (Some (digits_value_after 16 code rest)) None

hex_step : (code b : ℕ) (rest : List ℕ) → is_hex b ≡ true
    → scalar_after code (b ∷ rest) ≡ scalar_after (code * 16 + digit_value b) rest
hex_step code b rest h = rw h refl

is_hex_below : (b : ℕ) → digit_value b < 16 → is_hex b ≡ true
is_hex_below b lt = grind (arith, nat_tests)

pub scalar_step : (code i : ℕ) (digits : List ℕ) → i < length digits → digit_value (get_or digits i 0) < 16
    → scalar_after code (drop i digits) ≡ scalar_after (code * 16 + digit_value (get_or digits i 0))
    (drop (i + 1) digits)
scalar_step code i digits lt small =
    ap (scalar_after code) (drop-cons digits i 0 lt) ∙ hex_step code (get_or digits i 0) (drop (suc i) digits)
    (is_hex_below (get_or digits i 0) small)
    ∙ ap (λ (k : ℕ). scalar_after (code * 16 + digit_value (get_or digits i 0)) (drop k digits))
    (sym (add-one i))

-- seven digits and one more stay within 32 bits
pub code_fits : (code i : ℕ) → code < 16 ^ i → i < 8 → code * 16 + 15 < 2 ^ 32
code_fits code i lt le =
    let p : 16 ^ i ≤ 16 ^ 7 = pow-le-pow_right {n = 16} (omega arith) {i = i} {j = 7} (omega arith) in
    omega arith

pub code_step : (code i d : ℕ) → code < 16 ^ i → d < 16 → code * 16 + d < 16 ^ (i + 1)
code_step code i d lt le = let p : 16 ^ (i + 1) ≡ 16 ^ i * 16 = pow_more 16 i in omega arith

-- ---- codes of n digits

coded_too_few : (made : List ℕ → Piece) (n : ℕ) (text : List ℕ) → length text < n
    → rest_of (scalar_escape_at made n text) ≡ None
unfolding scalar_escape_at
coded_too_few made n text lt =
    let other : eqb (length (take n text)) n ≡ false = rw (length-take n text) (grind (arith, nat_tests)) in
    rw other refl

coded_enough : (made : List ℕ → Piece) (n : ℕ) (text : List ℕ) → n ≤ length text
    → scalar_escape_at made n text ≡ (scalar (take n text) >>= λ c. Some (made (take n text), drop n text))
unfolding scalar_escape_at
coded_enough made n text le =
    let same : eqb (length (take n text)) n ≡ true = eq-eqb (length (take n text)) n
    (length-take-le n text le) in
    rw same refl

pub few_coded : (made : List ℕ → Piece) (n : ℕ) (text : List ℕ) → length text < n
    → None ≡ rest_of (scalar_escape_at made n text)
few_coded made n text lt = sym (coded_too_few made n text lt)

pub none_coded : (made : List ℕ → Piece) (n : ℕ) (text : List ℕ) → n ≤ length text
    → None ≡ scalar (take n text) → None ≡ rest_of (scalar_escape_at made n text)
none_coded made n text le e = sym (ap (rest_of) (coded_enough made n text le) ∙ rw (← e) refl)

pub some_coded : (made : List ℕ → Piece) (n : ℕ) (text : List ℕ) (c : ℕ) → n ≤ length text
    → Some c ≡ scalar (take n text) → Some (drop n text) ≡ rest_of (scalar_escape_at made n text)
some_coded made n text c le e = sym (ap (rest_of) (coded_enough made n text le) ∙ rw (← e) refl)
