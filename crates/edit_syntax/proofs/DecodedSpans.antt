-- Strings, numbers, dates and times whose decoded value is their text, and the span of that text.
use Rattle.std.proofs.Common.{◌≡◌, ℕ, ◌+◌, ◌-◌, ◌<◌, ◌≤◌, Bool, true, false, ◌&&◌, cond, List, [], ◌++◌, length, drop, length-append, get_or, refl, sym, ap, subst, ◌∙◌, ◌⊎◌, inl, inr, arith}
use Rattle.std.specs.Prelude.{nat_le, slice_range, IsUtf8}
use Rattle.std.specs.List.{prefix_len}
use Rattle.std.specs.Str.{IsCharBoundary, bytes_eq}
use Rattle.std.proofs.lemmas.Bool.{cases_lt}
use Rattle.std.proofs.lemmas.Bool.Decides.{nat_tests}
use Rattle.std.proofs.lemmas.List.{take_all, drop_all, get_or_past, length-take-le, length-drop}
use Rattle.std.proofs.lemmas.Slice.Eq.{bytes_eq-Decides}
use Rattle.edit_syntax.specs.declared.span.Span.{Span}
use Rattle.edit_syntax.specs.declared.read.syntax_tokens.TokenKind.{TokenKind}
use Rattle.edit_syntax.specs.declared.read.syntax_tokens.TokenKind.TheVariants.{BasicPart, BasicString}
use Rattle.edit_syntax.specs.Characters.{is_unescaped}
use Rattle.edit_syntax.specs.Decoding as decoding
use Rattle.edit_syntax.specs.Decoding.{delimited, HasLineValue, HasDecodedValue}
use Rattle.edit_syntax.specs.Spans.{is_boundary, cut_from, bytes_at}
use Rattle.edit_syntax.proofs.DelimitedContents.{content_found}
use Rattle.edit_syntax.proofs.Escapes.{done}
use Rattle.edit_syntax.proofs.LineContents.{basic_line}

-- ---- what is cut out of a text

boundary_is : (bytes : List ℕ) (i : ℕ) → IsCharBoundary bytes i → is_boundary bytes i ≡ true
boundary_is bytes i at = elim (cases_lt i (length bytes)) [
  | inl lt ↦ elim (cases_lt (get_or bytes i 0) 128) [
    | inl low ↦ let h = at.0 in grind (arith, nat_tests)
    | inr high ↦ let h = at.0 in let g = at.1 lt high in grind (arith, nat_tests)
  ]
  | inr past ↦ let h = at.0 in let z = get_or_past bytes i 0 past in grind (arith, nat_tests)
]

boundary_from : (bytes : List ℕ) (i : ℕ) → is_boundary bytes i ≡ true → IsCharBoundary bytes i
boundary_from bytes i e = (grind (arith, nat_tests), λ lt high. grind (arith, nat_tests))

pub cut_is : (bytes : List ℕ) (i j : ℕ) → i ≤ j → IsCharBoundary bytes i → IsCharBoundary bytes j
    → cut_from bytes i j ≡ slice_range bytes i j
cut_is bytes i j le from to =
    let a : nat_le i j ≡ true = grind (arith, nat_tests) in
    rw (a, boundary_is bytes i from, boundary_is bytes j to) refl

pub cut_none : (bytes : List ℕ) (i j : ℕ) → (i ≤ j → IsCharBoundary bytes i → IsCharBoundary bytes j → ⊥)
    → cut_from bytes i j ≡ []
cut_none bytes i j not = go (nat_le i j) (is_boundary bytes i) (is_boundary bytes j) refl refl refl
  where
    ordered : nat_le i j ≡ true → i ≤ j
    ordered e = grind (arith, nat_tests)

    go : (a b c : Bool) → nat_le i j ≡ a → is_boundary bytes i ≡ b → is_boundary bytes j ≡ c
        → cond ((a && b) && c) (slice_range bytes i j) [] ≡ []
    go true true true e f g = absurd (not (ordered e) (boundary_from bytes i f) (boundary_from bytes j g))
    go true true false e f g = refl
    go true false c e f g = refl
    go false b c e f g = refl

-- what is cut out has as many bytes as lie between its ends, or none
pub cut_length : (bytes : List ℕ) (i j n : ℕ) → length (cut_from bytes i j) ≡ n → 0 < n → n ≡ j - i
cut_length bytes i j n long some = go (nat_le i j) (is_boundary bytes i)
    (is_boundary bytes j) refl refl refl long
  where
    none : 0 ≡ n → n ≡ j - i
    none e = absurd (omega arith)

    whole : is_boundary bytes j ≡ true → length (slice_range bytes i j) ≡ n → n ≡ j - i
    whole at e =
        let within = (boundary_from bytes j at).0 in
        let size = length-drop i bytes in
        let fits : j - i ≤ length (drop i bytes) = omega arith in
        sym e ∙ length-take-le (j - i) (drop i bytes) fits

    go : (a b c : Bool) → nat_le i j ≡ a → is_boundary bytes i ≡ b → is_boundary bytes j ≡ c
        → length (cond ((a && b) && c) (slice_range bytes i j) []) ≡ n → n ≡ j - i
    go true true true e f g h = whole g h
    go true true false e f g h = none h
    go true false c e f g h = none h
    go false b c e f g h = none h

-- bytes that are equal have as many bytes
pub unequal : (a b : List ℕ) (r : Bool) → (length b ≡ length a → r ≡ true) → r ≡ false → false ≡ bytes_eq a b
unequal a b r long off = go (bytes_eq a b) refl
  where
    go : (x : Bool) → bytes_eq a b ≡ x → false ≡ x
    go false e = refl
    go true e = absurd (let clash : false ≡ true = sym off ∙
        long (sym (ap length ((bytes_eq-Decides a b).0 e))) in cc)

-- ---- contents that are preserved

-- the span from behind a token's opening delimiter to before its closing one
pub content_read : (kind : TokenKind) (bytes before content rest said : List ℕ) (from width : ℕ) (span : Span)
    → IsUtf8 bytes → bytes ≡ before ++ delimited kind content rest
    → from ≡ length (delimited kind content rest)
    → HasDecodedValue kind content said → width ≡ length (decoding.delimiter kind) → span.from ≡ from - width
    → span.to ≡ length rest + width → bytes_at bytes span ≡ content
unfolding bytes_at
content_read kind bytes before content rest said from width span u spelled start says wide first last =
    let d = decoding.delimiter kind in
    let whole = ap length spelled in
    let a = length-append before (delimited kind content rest) in
    let b = length-append d (content ++ (d ++ rest)) in
    let k = length-append content (d ++ rest) in
    let m = length-append d rest in
    let i = length bytes - span.from in
    let j = length bytes - span.to in
    let at = content_found kind bytes before content rest said i j u spelled says (omega arith)
    (omega arith) in
    cut_is bytes i j at.ordered at.from at.to ∙ at.cut

-- a content without a backslash says itself
pub plain_line : (content said : List ℕ) → HasLineValue content said
    → length content ≤ prefix_len is_unescaped content → content ≡ said
plain_line content said (ps, all, folds, spelled, says) le =
    let n = prefix_len is_unescaped content in
    done ps content [] content []
    (record { left = ps; line = record { all = all; folds = folds }; spelled = spelled; says = refl })
    (sym (take_all n content le)) (sym (drop_all n content le)) refl ∙ sym says

-- the content of a basic string without a backslash
pub plain_basic : (kind : TokenKind) (content said : List ℕ) → (kind ≡ BasicPart) ⊎ (kind ≡ BasicString)
    → HasDecodedValue kind content said → length content ≤ prefix_len is_unescaped content → content ≡ said
plain_basic kind content said (inl e) h le = plain_line content said
    (basic_line content said (subst (λ (k : TokenKind). HasDecodedValue k content said) e h)) le
plain_basic kind content said (inr e) h le = plain_line content said
    (basic_line content said (subst (λ (k : TokenKind). HasDecodedValue k content said) e h)) le
