-- Contents of basic strings that say themselves: they have no escape.
use Rattle.std.proofs.Common.{◌≡◌, ℕ, ◌+◌, ◌<◌, ◌≤◌, List, [], ◌∷◌, ◌++◌, length, length-append, ap, subst, ◌⊎◌, inl, inr, arith}
use Rattle.std.specs.Prelude.{encode_utf8}
use Rattle.std.specs.List.{prefix_len, AllByRecursion}
use Rattle.std.specs.Str.Parse.{digits_value}
use Rattle.std.proofs.lemmas.Str.{length-encode, len_utf8_bounds}
use Rattle.edit_syntax.specs.declared.read.syntax_tokens.TokenKind.{TokenKind}
use Rattle.edit_syntax.specs.declared.read.syntax_tokens.TokenKind.TheVariants.{BasicPart, BasicString}
use Rattle.edit_syntax.specs.Characters.{quote, is_unescaped}
use Rattle.edit_syntax.specs.Strings.{Piece, plain, letter, short, long, feed, fold, delimiter, pieces, IsBasicPiece, decoded_pieces}
use Rattle.edit_syntax.specs.Decoding.{HasBasicValue, HasDecodedValue}
use Rattle.edit_syntax.proofs.EscapeRuns.{basic_unescaped}

-- a code says fewer bytes than it has
code_fewer : (digits bytes said : List ℕ) → 4 ≤ length digits → length said ≤ length bytes
    → length (encode_utf8 (digits_value 16 digits) ++ said) < 2 + length (digits ++ bytes)
code_fewer digits bytes said enough le =
    let c = digits_value 16 digits in
    let a = length-encode c in
    let b = (len_utf8_bounds c).1 in
    let d = length-append (encode_utf8 c) said in
    let e = length-append digits bytes in
    omega arith

-- pieces say no more bytes than they have
says_fewer : (ps : List Piece) → AllByRecursion IsBasicPiece ps
    → length (decoded_pieces quote ps) ≤ length (pieces quote ps [])
says_fewer [] all = omega arith
says_fewer (plain b ∷ ps) all = let k = says_fewer ps all.1 in omega arith
says_fewer (letter c ∷ ps) all = let k = says_fewer ps all.1 in omega arith
says_fewer (short digits ∷ ps) all =
    let n = all.0.0 in
    let k = code_fewer digits (pieces quote ps []) (decoded_pieces quote ps) (omega arith) (says_fewer ps all.1) in
    omega arith
says_fewer (long digits ∷ ps) all =
    let n = all.0.0 in
    let k = code_fewer digits (pieces quote ps []) (decoded_pieces quote ps) (omega arith) (says_fewer ps all.1) in
    omega arith
says_fewer (feed e ∷ ps) all = absurd all.0
says_fewer (fold ws e more ∷ ps) all = absurd all.0
says_fewer (delimiter ∷ ps) all = absurd all.0

-- pieces that say as many bytes as they have are bytes that stand for themselves
all_plain : (ps : List Piece) → AllByRecursion IsBasicPiece ps
    → length (pieces quote ps []) ≤ length (decoded_pieces quote ps)
    → length (pieces quote ps []) ≤ prefix_len is_unescaped (pieces quote ps [])
all_plain [] all le = omega arith
all_plain (plain b ∷ ps) all le =
    let more = all_plain ps all.1 (omega arith) in
    let k = basic_unescaped b all.0 in
    rw k (omega arith)
all_plain (letter c ∷ ps) all le = absurd (let k = says_fewer ps all.1 in omega arith)
all_plain (short digits ∷ ps) all le = absurd (
    let n = all.0.0 in
    let k = code_fewer digits (pieces quote ps []) (decoded_pieces quote ps) (omega arith) (says_fewer ps all.1) in
    omega arith
    )
all_plain (long digits ∷ ps) all le = absurd (
    let n = all.0.0 in
    let k = code_fewer digits (pieces quote ps []) (decoded_pieces quote ps) (omega arith) (says_fewer ps all.1) in
    omega arith
    )
all_plain (feed e ∷ ps) all le = absurd all.0
all_plain (fold ws e more ∷ ps) all le = absurd all.0
all_plain (delimiter ∷ ps) all le = absurd all.0

own_plain : (content : List ℕ) → HasBasicValue content content
    → length content ≤ prefix_len is_unescaped content
own_plain content (ps, all, spelled, said) =
    let le : length (pieces quote ps []) ≤ length (decoded_pieces quote ps) =
    let a = ap length spelled in let b = ap length said in omega arith in
    rw spelled (all_plain ps all le)

-- the content of a basic string that says itself has no backslash
pub own_basic : (kind : TokenKind) (content : List ℕ) → (kind ≡ BasicPart) ⊎ (kind ≡ BasicString)
    → HasDecodedValue kind content content → length content ≤ prefix_len is_unescaped content
own_basic kind content (inl e) h = own_plain content
    (subst (λ (k : TokenKind). HasDecodedValue k content content) e h)
own_basic kind content (inr e) h = own_plain content
    (subst (λ (k : TokenKind). HasDecodedValue k content content) e h)
