-- Escapes, runs of unescaped bytes and line folds of a basic string.
use Rattle.std.proofs.Common.{◌≡◌, ℕ, suc, ◌+◌, ◌<◌, ◌≤◌, Bool, true, false, cond, List, [], ◌∷◌, ◌++◌, length, take, drop, get_or, Option, Some, refl, ap, ◌∙◌, arith}
use Rattle.std.specs.Prelude.{unwrap_or}
use Rattle.std.specs.List.{prefix_len, AllByRecursion}
use Rattle.std.specs.Str.{IsCharBoundary}
use Rattle.std.specs.Str.Parse.{digits_value}
use Rattle.std.proofs.lemmas.Bool.Decides.{nat_tests}
use Rattle.std.proofs.lemmas.List.{take_at, length-append}
use Rattle.edit_syntax.specs.Characters.{quote, backslash, is_blank, is_basic_ch, is_unescaped, All}
use Rattle.edit_syntax.specs.Strings.{LineEnd, lf, crlf, line_end, Space, spaces, IsSpace, Piece, plain, letter, short, long, feed, fold, delimiter, piece, pieces, is_escape, is_hex, IsScalarCode, IsBasicPiece, IsMultiPiece, IsRawPiece, FoldsAreWhole, begins_with_space, decoded_piece, decoded_pieces, decoded_multi}
use Rattle.edit_syntax.specs.Strings as strings
use Rattle.edit_syntax.specs.Decoding.{BeginsWithBackslash, is_spacing}
use Rattle.edit_syntax.specs.Reading.{scalar}
use Rattle.edit_syntax.proofs.TokenLaws.{list_of_all, basic_ch_not}
use Rattle.edit_syntax.proofs.DelimitedContents.{Ascii}

-- ---- codes

scalar_of : (n : ℕ) (digits : List ℕ) → IsScalarCode n digits → scalar digits ≡ Some (digits_value 16 digits)
scalar_of n digits h = rw (list_of_all is_hex digits h.1, h.2) refl

pub coded_says : (n : ℕ) (bytes digits rest : List ℕ) (d : ℕ) (r : Option ℕ) → bytes ≡ digits ++ rest
    → IsScalarCode n digits → r ≡ scalar (take n bytes) → unwrap_or r d ≡ digits_value 16 digits
coded_says n bytes digits rest d r spelled h e =
    let k : take n bytes ≡ digits = ap (take n) spelled ∙ take_at digits rest n h.0 in
    let f : r ≡ Some (digits_value 16 digits) = e ∙ ap scalar k ∙ scalar_of n digits h in
    ap (λ (o : Option ℕ). unwrap_or o d) f

pub coded_enough : (n : ℕ) (bytes digits rest : List ℕ) → bytes ≡ digits ++ rest → IsScalarCode n digits
    → n ≤ length bytes
coded_enough n bytes digits rest spelled h = omega (arith, ap length spelled, length-append digits rest, h.0)

-- ---- runs

-- pieces of a basic string, also over several lines
pub record AreLine (ps : List Piece) : Type 0 where
  pub all : AllByRecursion IsMultiPiece ps
  pub folds : FoldsAreWhole ps

-- nothing, or a backslash first
abbrev pub BeginsEscaped : List Piece → Type 0
BeginsEscaped [] = Unit {0}
BeginsEscaped (p ∷ ps) = BeginsWithBackslash p

-- the pieces behind the run of plain bytes, of a text that says this
pub record Behind (bytes said : List ℕ) (rs : List Piece) : Type 0 where
  pub line : AreLine rs
  pub rest : drop (prefix_len is_unescaped bytes) bytes ≡ pieces quote rs []
  pub says : said ≡ take (prefix_len is_unescaped bytes) bytes ++ decoded_pieces quote rs
  pub begins : BeginsEscaped rs

pub basic_unescaped : (b : ℕ) → is_basic_ch b ≡ true → is_unescaped b ≡ true
basic_unescaped b h = let k = (basic_ch_not b h).1 in rw k refl

byte_behind : (b : ℕ) (bytes said : List ℕ) (rs : List Piece) → is_unescaped b ≡ true → Behind bytes said rs
    → Behind (b ∷ bytes) (b ∷ said) rs
byte_behind b bytes said rs h more =
    let n = prefix_len is_unescaped bytes in
    let k : prefix_len is_unescaped (b ∷ bytes) ≡ suc n = rw h (omega arith) in
    record {
      line = more.line;
      rest = rw k more.rest;
      says = rw k (ap (λ (r : List ℕ). b ∷ r) more.says);
      begins = more.begins;
    }

escaped_behind : (p : Piece) (qs : List Piece) (bytes : List ℕ) → AreLine (p ∷ qs) → BeginsWithBackslash p
    → pieces quote (p ∷ qs) [] ≡ backslash ∷ bytes
    → Behind (pieces quote (p ∷ qs) []) (decoded_pieces quote (p ∷ qs)) (p ∷ qs)
escaped_behind p qs bytes line escaped e =
    let k : prefix_len is_unescaped (pieces quote (p ∷ qs) []) ≡ 0 = ap (prefix_len is_unescaped) e in
    record {
      line = line;
      rest = rw k refl;
      says = rw k refl;
      begins = escaped;
    }

pub run_behind : (qs : List Piece) → AreLine qs → (rs : List Piece)
    × Behind (pieces quote qs []) (decoded_pieces quote qs) rs
run_behind [] h = ([], record { line = h; rest = refl; says = refl; begins = tt })
run_behind (plain b ∷ qs) h =
    let more = run_behind qs (record { all = h.all.1; folds = h.folds }) in
    (more.0, byte_behind b (pieces quote qs []) (decoded_pieces quote qs) more.0 (basic_unescaped b h.all.0) more.1)
run_behind (letter c ∷ qs) h = (letter c ∷ qs, escaped_behind (letter c) qs (c ∷ pieces quote qs []) h tt refl)
run_behind (short digits ∷ qs) h =
    (short digits ∷ qs, escaped_behind (short digits) qs (117 ∷ (digits ++ pieces quote qs [])) h tt refl)
run_behind (long digits ∷ qs) h =
    (long digits ∷ qs, escaped_behind (long digits) qs (85 ∷ (digits ++ pieces quote qs [])) h tt refl)
run_behind (feed lf ∷ qs) h =
    let more = run_behind qs (record { all = h.all.1; folds = h.folds }) in
    (more.0, byte_behind 10 (pieces quote qs []) (decoded_pieces quote qs) more.0 refl more.1)
run_behind (feed crlf ∷ qs) h =
    let more = run_behind qs (record { all = h.all.1; folds = h.folds }) in (
      more.0,
      byte_behind 13 (10 ∷ pieces quote qs []) (10 ∷ decoded_pieces quote qs) more.0 refl
          (byte_behind 10 (pieces quote qs []) (decoded_pieces quote qs) more.0 refl more.1),
    )
run_behind (fold ws end more ∷ qs) h = (
  fold ws end more ∷ qs,
  escaped_behind (fold ws end more) qs
      (ws ++ line_end end (spaces more (pieces quote qs []))) h tt refl,
)
run_behind (delimiter ∷ qs) h =
    let more = run_behind qs (record { all = h.all.1; folds = h.folds }) in
    (more.0, byte_behind quote (pieces quote qs []) (decoded_pieces quote qs) more.0 refl more.1)

run_stops : (class : ℕ → Bool) (bytes : List ℕ) → (prefix_len class bytes ≤ length bytes)
    × (prefix_len class bytes < length bytes → class (get_or bytes (prefix_len class bytes) 0) ≡ false)
run_stops class [] = (omega arith, λ lt. absurd (omega arith))
run_stops class (b ∷ bytes) = go (class b) refl (run_stops class bytes)
  where
    go : (t : Bool) → class b ≡ t → (prefix_len class bytes ≤ length bytes)
        × (prefix_len class bytes < length bytes → class (get_or bytes (prefix_len class bytes) 0) ≡ false)
        → (cond t (1 + prefix_len class bytes) 0 ≤ suc (length bytes))
        × (cond t (1 + prefix_len class bytes) 0 < suc (length bytes)
        → class (get_or (b ∷ bytes) (cond t (1 + prefix_len class bytes) 0) 0) ≡ false)
    go true e more = let k : 1 + prefix_len class bytes ≡ suc (prefix_len class bytes) = omega arith in
        rw k (let l = more.0 in omega arith, λ lt. more.1 (omega arith))
    go false e more = (omega arith, λ lt. e)

unescaped_ascii : (b : ℕ) → is_unescaped b ≡ false → b < 128
unescaped_ascii b h = grind (arith, nat_tests)

pub run_boundary : (bytes : List ℕ) → IsCharBoundary bytes (prefix_len is_unescaped bytes)
run_boundary bytes = let s = run_stops is_unescaped bytes in
    (s.0, λ lt high. absurd (let k = unescaped_ascii _ (s.1 lt) in omega arith))

hex_ascii : (b : ℕ) → is_hex b ≡ true → b < 128
hex_ascii b h = grind (arith, nat_tests)

pub hexes_ascii : (digits : List ℕ) → All is_hex digits → Ascii (digits ++ [])
hexes_ascii [] h = tt
hexes_ascii (b ∷ digits) h = (hex_ascii b h.0, hexes_ascii digits h.1)

pub letter_ascii : (c : ℕ) → is_escape c ≡ true → c < 128
letter_ascii c h = grind (arith, nat_tests)

-- ---- folds

spacing_ascii : (b : ℕ) → is_spacing b ≡ true → b < 128
spacing_ascii b h = grind (arith, nat_tests)

pub blank_spacing : (b : ℕ) → is_blank b ≡ true → is_spacing b ≡ true
blank_spacing b h = rw h refl

spaces_spacing : (more : List Space) → AllByRecursion IsSpace more → All is_spacing (spaces more [])
spaces_spacing [] h = tt
spaces_spacing (strings.blank b ∷ more) h = (blank_spacing b h.0, spaces_spacing more h.1)
spaces_spacing (strings.break lf ∷ more) h = (refl, spaces_spacing more h.1)
spaces_spacing (strings.break crlf ∷ more) h = (refl, (refl, spaces_spacing more h.1))

pub fold_spacing : (ws : List ℕ) (e : LineEnd) (more : List Space) → All is_blank ws
    → AllByRecursion IsSpace more
    → All is_spacing (ws ++ line_end e (spaces more []))
fold_spacing [] lf more hw hm = (refl, spaces_spacing more hm)
fold_spacing [] crlf more hw hm = (refl, (refl, spaces_spacing more hm))
fold_spacing (w ∷ ws) e more hw hm = (blank_spacing w hw.0, fold_spacing ws e more hw.1 hm)

pub spacings_ascii : (bytes : List ℕ) → All is_spacing bytes → Ascii bytes
spacings_ascii [] h = tt
spacings_ascii (b ∷ bytes) h = (spacing_ascii b h.0, spacings_ascii bytes h.1)
