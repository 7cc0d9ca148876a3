-- The content between delimiters is at character boundaries of the text; its decoded value.
use Rattle.std.proofs.Common.{◌≡◌, ℕ, ◌+◌, ◌-◌, ◌<◌, ◌≤◌, true, List, [], ◌∷◌, ◌++◌, length, get_or, Option, Some, None, refl, sym, ap, subst, ◌∙◌, append_assoc, arith}
use Rattle.std.specs.Borrow.{Bor}
use Rattle.std.specs.Prelude.{slice_range, unwrap_or}
use Rattle.std.specs.List.{AllByRecursion}
use Rattle.std.specs.Str.{IsUtf8, IsCharBoundary}
use Rattle.std.specs.Str.Pattern.{GetsRange}
use Rattle.std.proofs.lemmas.Bool.Decides.{nat_tests}
use Rattle.std.proofs.lemmas.List.{take_at, drop_at, length-append}
use Rattle.std.proofs.lemmas.Str.{encode_ascii, IsUtf8-past_char, IsUtf8-drop, IsCharBoundary-before_ascii, IsCharBoundary-at_seam}
use Rattle.edit_syntax.specs.declared.read.syntax_tokens.TokenKind.{TokenKind}
use Rattle.edit_syntax.specs.declared.read.syntax_tokens.TokenKind.TheVariants.{BarePart, BasicPart, LiteralPart, BasicString, LiteralString, MultiBasicString, MultiLiteralString, Integer, Float, DateTime}
use Rattle.edit_syntax.specs.Characters.{quote, apostrophe, is_bare, is_ascii, All}
use Rattle.edit_syntax.specs.Strings.{decoded_piece}
use Rattle.edit_syntax.specs.Decoding as decoding
use Rattle.edit_syntax.specs.Decoding.{delimited, HasBasicValue, HasDecodedValue}
use Rattle.edit_syntax.specs.Reading.{front}
use Rattle.edit_syntax.proofs.ListElements.{get_seam}

-- ---- where a text may be cut

abbrev pub Ascii : List ℕ → Type 0
Ascii bytes = AllByRecursion (λ (b : ℕ). b < 128) bytes

-- what follows ASCII is UTF-8
pub utf8_behind : (front rest : List ℕ) → Ascii front → IsUtf8 (front ++ rest) → IsUtf8 rest
utf8_behind [] rest h u = u
utf8_behind (b ∷ front) rest h u =
    utf8_behind front rest h.1
    (IsUtf8-past_char (b ∷ (front ++ rest)) (front ++ rest) b u
    (ap (λ (e : List ℕ). e ++ (front ++ rest)) (sym (encode_ascii b h.0))))

-- what begins with ASCII is UTF-8
pub utf8_from : (xs ys : List ℕ) (b : ℕ) → IsUtf8 (xs ++ (b ∷ ys)) → b < 128 → IsUtf8 (b ∷ ys)
utf8_from xs ys b u lt =
    let bytes = xs ++ (b ∷ ys) in
    let within : length xs < length bytes = omega (arith, length-append xs (b ∷ ys)) in
    let ascii : get_or bytes (length xs) 0 < 128 = rw (get_seam xs ys b) lt in
    subst IsUtf8 (drop_at xs (b ∷ ys) (length xs) refl)
    (IsUtf8-drop bytes (length xs) u (IsCharBoundary-before_ascii bytes (length xs) within ascii))

bare_ascii : (b : ℕ) → is_bare b ≡ true → b < 128
bare_ascii b h = grind (arith, nat_tests)

bares_ascii : (bytes : List ℕ) → All is_bare bytes → Ascii bytes
bares_ascii [] h = tt
bares_ascii (b ∷ bytes) h = (bare_ascii b h.0, bares_ascii bytes h.1)

-- the content and what follows it, and what follows it, are UTF-8
abbrev pub PartsUtf8 : TokenKind → List ℕ → List ℕ → Type 0
PartsUtf8 kind content rest = IsUtf8 (content ++ (decoding.delimiter kind ++ rest))
    × IsUtf8 (decoding.delimiter kind ++ rest)

quoted_utf8 : (q : ℕ) (before content rest : List ℕ) → q < 128
    → IsUtf8 (before ++ (q ∷ (content ++ (q ∷ rest)))) → IsUtf8 (content ++ (q ∷ rest)) × IsUtf8 (q ∷ rest)
quoted_utf8 q before content rest lt u =
    let one = utf8_from before (content ++ (q ∷ rest)) q u lt in
    let inner = utf8_behind (q ∷ []) (content ++ (q ∷ rest)) (lt, tt) one in
    (inner, utf8_from content rest q inner lt)

tripled_utf8 : (q : ℕ) (before content rest : List ℕ) → q < 128
    → IsUtf8 (before ++ (q ∷ (q ∷ (q ∷ (content ++ (q ∷ (q ∷ (q ∷ rest))))))))
    → IsUtf8 (content ++ (q ∷ (q ∷ (q ∷ rest)))) × IsUtf8 (q ∷ (q ∷ (q ∷ rest)))
tripled_utf8 q before content rest lt u =
    let tail = q ∷ (q ∷ (q ∷ rest)) in
    let one = utf8_from before (q ∷ (q ∷ (content ++ tail))) q u lt in
    let inner = utf8_behind (q ∷ (q ∷ (q ∷ []))) (content ++ tail) (lt, (lt, (lt, tt))) one in
    (inner, utf8_from content (q ∷ (q ∷ rest)) q inner lt)

bare_utf8 : (before content rest : List ℕ) → 0 < length content → All is_bare content
    → IsUtf8 (before ++ (content ++ rest)) → IsUtf8 (content ++ rest) × IsUtf8 rest
bare_utf8 before [] rest some h u = absurd (omega arith)
bare_utf8 before (b ∷ content) rest some h u =
    let one = utf8_from before (content ++ rest) b u (bare_ascii b h.0) in
    (one, utf8_behind (b ∷ content) rest (bares_ascii (b ∷ content) h) one)

ascii_byte : (b : ℕ) → is_ascii b ≡ true → b < 128
ascii_byte b h = grind (arith, nat_tests)

ascii_bytes : (bytes : List ℕ) → All is_ascii bytes → Ascii bytes
ascii_bytes [] h = tt
ascii_bytes (b ∷ bytes) h = (ascii_byte b h.0, ascii_bytes bytes h.1)

content_utf8 : (before content rest : List ℕ) → 0 < length content → All is_ascii content
    → IsUtf8 (before ++ (content ++ rest)) → IsUtf8 (content ++ rest) × IsUtf8 rest
content_utf8 before [] rest some h u = absurd (omega arith)
content_utf8 before (b ∷ content) rest some h u =
    let one = utf8_from before (content ++ rest) b u (ascii_byte b h.0) in
    (one, utf8_behind (b ∷ content) rest (ascii_bytes (b ∷ content) h) one)

parts_utf8 : (kind : TokenKind) (before content rest said : List ℕ) → HasDecodedValue kind content said
    → IsUtf8 (before ++ delimited kind content rest) → PartsUtf8 kind content rest
parts_utf8 BarePart before content rest said h u = bare_utf8 before content rest h.0 h.1 u
parts_utf8 BasicPart before content rest said h u = quoted_utf8 quote before content rest (omega arith) u
parts_utf8 LiteralPart before content rest said h u = quoted_utf8 apostrophe before content rest
    (omega arith) u
parts_utf8 BasicString before content rest said h u = quoted_utf8 quote before content rest (omega arith) u
parts_utf8 LiteralString before content rest said h u = quoted_utf8 apostrophe before content rest
    (omega arith) u
parts_utf8 MultiBasicString before content rest said h u =
    tripled_utf8 quote before content rest (omega arith) u
parts_utf8 MultiLiteralString before content rest said h u =
    tripled_utf8 apostrophe before content rest (omega arith) u
parts_utf8 Integer before content rest said h u = content_utf8 before content rest h.0 h.1 u
parts_utf8 Float before content rest said h u = content_utf8 before content rest h.0 h.1 u
parts_utf8 DateTime before content rest said h u = content_utf8 before content rest h.0 h.1 u
parts_utf8 _ before content rest said h u = absurd h

-- ---- the range of a content

pub record IsContentAt (bytes content : List ℕ) (i j : ℕ) : Type 0 where
  pub from : IsCharBoundary bytes i
  pub to : IsCharBoundary bytes j
  pub ordered : i ≤ j
  pub cut : slice_range bytes i j ≡ content

range_of : (xs content ys : List ℕ) (i j : ℕ) → i ≡ length xs → j ≡ length xs + length content
    → slice_range (xs ++ (content ++ ys)) i j ≡ content
range_of xs content ys i j e f =
    let n : j - i ≡ length content = omega arith in
    rw (n, e, drop_at xs (content ++ ys) (length xs) refl, take_at content ys (length content) refl) refl

content_at : (xs content ys : List ℕ) (i j : ℕ) → IsUtf8 (content ++ ys) → IsUtf8 ys → i ≡ length xs
    → j ≡ length xs + length content → IsContentAt (xs ++ (content ++ ys)) content i j
content_at xs content ys i j u v e f =
    let bytes = xs ++ (content ++ ys) in
    let n : j ≡ length (xs ++ content) = omega (arith, length-append xs content) in
    record {
      from = rw e (IsCharBoundary-at_seam bytes xs (content ++ ys) refl u);
      to = rw n (IsCharBoundary-at_seam bytes (xs ++ content) ys (sym (append_assoc xs content ys)) v);
      ordered = omega arith;
      cut = range_of xs content ys i j e f;
    }

pub content_found : (kind : TokenKind) (bytes before content rest said : List ℕ) (i j : ℕ) → IsUtf8 bytes
    → bytes ≡ before ++ delimited kind content rest → HasDecodedValue kind content said
    → i ≡ length before + length (decoding.delimiter kind) → j ≡ i + length content
    → IsContentAt bytes content i j
content_found kind bytes before content rest said i j u spelled h e f =
    let d = decoding.delimiter kind in
    let parts = parts_utf8 kind before content rest said h (subst IsUtf8 spelled u) in
    let whole : bytes ≡ (before ++ d) ++ (content ++ (d ++ rest)) = spelled ∙
    sym (append_assoc before d (content ++ (d ++ rest))) in
    let n : i ≡ length (before ++ d) = omega (arith, length-append before d) in
    let m : j ≡ length (before ++ d) + length content = omega arith in
    subst (λ (b : List ℕ). IsContentAt b content i j) (sym whole)
    (content_at (before ++ d) content (d ++ rest) i j parts.0 parts.1 n m)

-- the range of the content of a token
pub content_range : (kind : TokenKind) (before content rest : List ℕ) (n from to width : ℕ)
    → n ≡ length (before ++ delimited kind content rest) → from ≡ length (delimited kind content rest)
    → to ≡ length rest → width ≡ length (decoding.delimiter kind)
    → ((n - from) + width ≡ length before + length (decoding.delimiter kind))
    × ((n - to) - width ≡ (length before + length (decoding.delimiter kind)) + length content)
content_range kind before content rest n from to width e f g h =
    let d = decoding.delimiter kind in
    let a = length-append before (delimited kind content rest) in
    let b = length-append d (content ++ (d ++ rest)) in
    let k = length-append content (d ++ rest) in
    let l = length-append d rest in
    (omega arith, omega arith)

pub got_content : (bytes content : List ℕ) (i j : ℕ) (r : Option (Bor (List ℕ))) (d : Bor (List ℕ))
    → IsContentAt bytes content i j → GetsRange bytes i j r → (unwrap_or r d).now ≡ content
got_content bytes content i j (Some x) d at gets = gets.0 ∙ at.cut
got_content bytes content i j None d at gets = absurd (gets at.ordered at.from at.to)
