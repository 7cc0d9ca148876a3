-- The string literal of a text is well formed and has the text as its decoded value, for any bytes.
use Rattle.std.proofs.Common.{◌≡◌, ℕ, zero, suc, ◌<◌, ◌≤◌, Bool, true, false, ◌&&◌, ◌==◌, nat_lt, nat_le, List, [], ◌∷◌, ◌++◌, map, length, refl, sym, ap, ◌∙◌, subst, lit<, ◌⊎◌, inl, inr, ⊎_elim, true≢false, arith}
use Rattle.std.proofs.lemmas.Bool.{and_parts, cases_lt, eqb-true}
use Rattle.std.specs.List.{AllByRecursion, list_all}
use Rattle.std.specs.Str.Parse.{digits_value}
use Rattle.edit_syntax.specs.Characters.{quote, is_basic_ch, All}
use Rattle.edit_syntax.specs.Strings.{Piece, plain, letter, short, long, feed, fold, delimiter, is_escape, is_hex, is_scalar, IsBasicPiece, decoded_piece, decoded_pieces}
use Rattle.edit_syntax.specs.Grammar.{IsValue}
use Rattle.edit_tree.specs.Assertions.{same_bytes}
use Rattle.edit_tree.specs.Literals.{literal_piece, literal_of}
use Rattle.edit_tree.proofs.SamePlace.{same_bytes_is}

-- ---- bytes of ASCII, one by one

all_below : (ℕ → Bool) → ℕ → Bool
all_below p zero = true
all_below p (suc n) = p n && all_below p n

below_cases : (b n : ℕ) → b < suc n → (b ≡ n) ⊎ (b < n)
below_cases b n h = ⊎_elim (λ l. inr l) (λ g. inl (omega arith)) (cases_lt b n)

from_all : (p : ℕ → Bool) (n b : ℕ) → all_below p n ≡ true → b < n → p b ≡ true
unfolding all_below
from_all p zero b e h = absurd (omega arith)
from_all p (suc n) b e h =
    let both = and_parts (p n) (all_below p n) e in
    ⊎_elim (λ q. ap p q ∙ both.0) (λ q. from_all p n b both.1 q) (below_cases b n h)

fine : Piece → Bool
fine (plain b) = is_basic_ch b
fine (letter c) = is_escape c
fine (short digits) = (length digits == 4) && (list_all is_hex digits && is_scalar (digits_value 16 digits))
fine _ = false

all_hex : (digits : List ℕ) → list_all is_hex digits ≡ true → All is_hex digits
all_hex [] e = tt
all_hex (d ∷ ds) e = let h = and_parts (is_hex d) (list_all is_hex ds) e in (h.0, all_hex ds h.1)

is_fine : (p : Piece) → fine p ≡ true → IsBasicPiece p
unfolding fine
is_fine (plain b) e = e
is_fine (letter c) e = e
is_fine (short digits) e =
    let h = and_parts (length digits == 4) (list_all is_hex digits && is_scalar (digits_value 16 digits)) e in
    let r = and_parts (list_all is_hex digits) (is_scalar (digits_value 16 digits)) h.1 in
    (eqb-true (length digits) 4 h.0, all_hex digits r.0, r.1)
is_fine (long digits) e = absurd (true≢false (sym e))
is_fine (feed l) e = absurd (true≢false (sym e))
is_fine (fold ws l more) e = absurd (true≢false (sym e))
is_fine delimiter e = absurd (true≢false (sym e))

checked : all_below (λ b. fine (literal_piece b) && same_bytes (decoded_piece quote (literal_piece b)) (b ∷ [])) 128
    ≡ true
unfolding all_below fine lib.Utf8.encode
checked = refl

-- ---- bytes past ASCII stand for themselves

other : (b n : ℕ) → n < 128 → 128 ≤ b → (b == n) ≡ false
other b n h g = grind arith

pub past_ascii : (b : ℕ) → 128 ≤ b → literal_piece b ≡ plain b
past_ascii b g = rw (
  other b 34 (lit< tt) g,
  other b 92 (lit< tt) g,
  other b 8 (lit< tt) g,
  other b 9 (lit< tt) g,
  other b 10 (lit< tt) g,
  other b 12 (lit< tt) g,
  other b 13 (lit< tt) g,
  other b 127 (lit< tt) g,
  high b g,
) refl
  where
    high : (b : ℕ) → 128 ≤ b → nat_lt b 32 ≡ false
    high b g = grind arith

past_basic : (b : ℕ) → 128 ≤ b → is_basic_ch b ≡ true
past_basic b g = rw (
  other b 34 (lit< tt) g,
  other b 92 (lit< tt) g,
  other b 9 (lit< tt) g,
  other b 127 (lit< tt) g,
  high b g,
) refl
  where
    high : (b : ℕ) → 128 ≤ b → nat_le 32 b ≡ true
    high b g = grind arith

pub piece_fine : (b : ℕ) → IsBasicPiece (literal_piece b) × (decoded_piece quote (literal_piece b) ≡ b ∷ [])
piece_fine b = ⊎_elim (λ l. low l) (λ g. high g) (cases_lt b 128)
  where
    low : b < 128 → IsBasicPiece (literal_piece b) × (decoded_piece quote (literal_piece b) ≡ b ∷ [])
    low h =
        let c = and_parts (fine (literal_piece b)) (same_bytes (decoded_piece quote (literal_piece b)) (b ∷ []))
        (from_all (λ b. fine (literal_piece b) && same_bytes (decoded_piece quote (literal_piece b)) (b ∷ [])) 128 b
        checked h) in
        (is_fine (literal_piece b) c.0, same_bytes_is _ _ c.1)

    high : 128 ≤ b → IsBasicPiece (literal_piece b) × (decoded_piece quote (literal_piece b) ≡ b ∷ [])
    high g = subst (λ p. IsBasicPiece p × (decoded_piece quote p ≡ b ∷ [])) (sym (past_ascii b g))
        (past_basic b g, refl)

-- ---- the literal of a text

pub literal_is_value : (text : List ℕ) → IsValue (literal_of text)
literal_is_value text = go text
  where
    go : (text : List ℕ) → AllByRecursion IsBasicPiece (map literal_piece text)
    go [] = tt
    go (b ∷ bs) = ((piece_fine b).0, go bs)

pub literal_says : (text : List ℕ) → decoded_pieces quote (map literal_piece text) ≡ text
literal_says [] = refl
literal_says (b ∷ bs) = ap (λ l. l ++ decoded_pieces quote (map literal_piece bs)) (piece_fine b).1 ∙
    ap (λ l. b ∷ l) (literal_says bs)
