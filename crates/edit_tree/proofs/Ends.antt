-- Suffixes of a text, and the decoded values of the tokens there.
use Rattle.std.proofs.Common.{◌≡◌, ℕ, zero, suc, ◌+◌, ◌-◌, ◌<◌, Bool, true, List, [], ◌∷◌, ◌++◌, length, take, drop, get_or, refl, sym, ap, subst, ◌∙◌, append_assoc, length-append, lit<, arith}
use Rattle.std.specs.Prelude.{encode_utf8, IsUtf8}
use Rattle.std.specs.List.{AllByRecursion}
use Rattle.std.specs.Str.Parse.{digits_value}
use Rattle.std.proofs.lemmas.List.{append-nil}
use Rattle.std.proofs.lemmas.Str.{IsUtf8-append, IsUtf8-nil, IsUtf8-encode, IsUtf8-take, IsUtf8-drop, IsUtf8-from_ascii, IsCharBoundary-before_ascii, IsCharBoundary-after_ascii}
use Rattle.edit_syntax.specs.Characters.{quote, backslash, equals, is_bare, All}
use Rattle.edit_syntax.specs.Strings.{Piece, plain, letter, short, long, feed, fold, delimiter, pieces, decoded_pieces, IsBasicPiece, Part, part, LineEnd, line_end, lf, crlf, Key, key, is_escape, letter_value, is_hex, is_scalar}
use Rattle.edit_syntax.specs.Grammar.{Between, gap, Value, value, Line, line}
use Rattle.std.specs.Char.{IsScalar}
use Rattle.std.proofs.lemmas.Bool.Decides.{nat_tests}
use Rattle.edit_tree.specs.Walk.{suffix}
use Rattle.edit_syntax.proofs.PutBefore.{Relation, IsPreserved, key_before, pair_before, gap_before, value_before, line_before}
use Rattle.edit_syntax.proofs.ListElements.{get_seam}

-- the text ends so
abbrev pub Ends : List ℕ → List ℕ → Type 0
Ends bytes s = (front : List ℕ) × (bytes ≡ front ++ s)

pub ends_past : (bytes xs s : List ℕ) → Ends bytes (xs ++ s) → Ends bytes s
ends_past bytes xs s h = (h.0 ++ xs, h.1 ∙ sym (append_assoc h.0 xs s))

pub ends_one : (bytes : List ℕ) (x : ℕ) (s : List ℕ) → Ends bytes (x ∷ s) → Ends bytes s
ends_one bytes x s h = ends_past bytes (x ∷ []) s h

drop_length : {X : Type 0} (xs ys : List X) → drop (length xs) (xs ++ ys) ≡ ys
drop_length [] ys = refl
drop_length (x ∷ xs) ys = drop_length xs ys

pub take_length : {X : Type 0} (xs ys : List X) → take (length xs) (xs ++ ys) ≡ xs
take_length [] ys = refl
take_length (x ∷ xs) ys = ap (λ zs. x ∷ zs) (take_length xs ys)

pub suffix_is : (bytes s : List ℕ) → Ends bytes s → suffix bytes (length s) ≡ s
suffix_is bytes s h =
    let size : length bytes ≡ length h.0 + length s = ap length h.1 ∙ length-append h.0 s in
    let n : length bytes - length s ≡ length h.0 = omega arith in
    ap (λ (k : ℕ). drop k bytes) n ∙ ap (drop (length h.0)) h.1 ∙ drop_length h.0 s

-- ---- what follows a part of the grammar stands at the end of the text

abbrev Tail : List ℕ → Relation
Tail rest = λ whole own. (xs : List ℕ) × (whole ≡ xs ++ rest)

tail_one : (rest : List ℕ) → IsPreserved (Tail rest)
tail_one rest c old new h = (c ∷ h.0, ap (λ (t : List ℕ). c ∷ t) h.1)

tail_end : (rest : List ℕ) → Tail rest rest rest
tail_end rest = ([], refl)

ends_tail : (bytes whole rest : List ℕ) → Ends bytes whole → Tail rest whole rest → Ends bytes rest
ends_tail bytes whole rest h t = ends_past bytes t.0 rest (h.0, h.1 ∙ ap (λ (w : List ℕ). h.0 ++ w) t.1)

pub ends_key : (bytes : List ℕ) (k : Key) (rest : List ℕ) → Ends bytes (key k rest) → Ends bytes rest
ends_key bytes k rest h = ends_tail bytes (key k rest) rest h
    (key_before (Tail rest) (tail_one rest) k rest rest (tail_end rest))

pub ends_part : (bytes : List ℕ) (p : Part) (rest : List ℕ) → Ends bytes (part p rest) → Ends bytes rest
ends_part bytes p rest h = ends_key bytes (record { first = p; others = [] }) rest h

pub ends_pair : (bytes : List ℕ) (k : Key) (a b rest : List ℕ)
    → Ends bytes (key k (a ++ (equals ∷ (b ++ rest)))) → Ends bytes rest
ends_pair bytes k a b rest h = ends_tail bytes (key k (a ++ (equals ∷ (b ++ rest)))) rest h
    (pair_before (Tail rest) (tail_one rest) k a b rest rest (tail_end rest))

pub ends_gap : (bytes : List ℕ) (g : List Between) (rest : List ℕ) → Ends bytes (gap g rest) → Ends bytes rest
ends_gap bytes g rest h = ends_tail bytes (gap g rest) rest h
    (gap_before (Tail rest) (tail_one rest) g rest rest (tail_end rest))

pub ends_value : (bytes : List ℕ) (v : Value) (rest : List ℕ) → Ends bytes (value v rest) → Ends bytes rest
ends_value bytes v rest h = ends_tail bytes (value v rest) rest h
    (value_before (Tail rest) (tail_one rest) v rest rest (tail_end rest))

pub ends_line_end : (bytes : List ℕ) (e : LineEnd) (rest : List ℕ) → Ends bytes (line_end e rest)
    → Ends bytes rest
ends_line_end bytes lf rest h = ends_one bytes 10 rest h
ends_line_end bytes crlf rest h = ends_one bytes 10 rest (ends_one bytes 13 (10 ∷ rest) h)

-- ---- texts

-- a text may be cut before and behind a character of ASCII
pub text_before : (xs ys : List ℕ) (c : ℕ) → c < 128 → IsUtf8 (xs ++ (c ∷ ys)) → IsUtf8 xs
text_before xs ys c small u =
    let size : length (xs ++ (c ∷ ys)) ≡ length xs + suc (length ys) = length-append xs (c ∷ ys) in
    let here : get_or (xs ++ (c ∷ ys)) (length xs) 0 ≡ c = get_seam xs ys c in
    subst IsUtf8 (take_length xs (c ∷ ys))
    (IsUtf8-take (xs ++ (c ∷ ys)) (length xs) u
    (IsCharBoundary-before_ascii (xs ++ (c ∷ ys)) (length xs) (omega arith) (omega arith)))

drop_seam : (xs ys : List ℕ) (c : ℕ) → drop (length xs + 1) (xs ++ (c ∷ ys)) ≡ ys
drop_seam xs ys c =
    let size : length (xs ++ c ∷ []) ≡ length xs + 1 = length-append xs (c ∷ []) in
    ap (λ (n : ℕ). drop n (xs ++ (c ∷ ys))) (sym size) ∙
    ap (drop (length (xs ++ c ∷ []))) (sym (append_assoc xs (c ∷ []) ys)) ∙ drop_length (xs ++ c ∷ []) ys

pub text_behind : (xs ys : List ℕ) (c : ℕ) → c < 128 → IsUtf8 (xs ++ (c ∷ ys)) → IsUtf8 ys
text_behind xs ys c small u =
    let size : length (xs ++ (c ∷ ys)) ≡ length xs + suc (length ys) = length-append xs (c ∷ ys) in
    let here : get_or (xs ++ (c ∷ ys)) (length xs) 0 ≡ c = get_seam xs ys c in
    subst IsUtf8 (drop_seam xs ys c)
    (IsUtf8-drop (xs ++ (c ∷ ys)) (length xs + 1) u
    (IsCharBoundary-after_ascii (xs ++ (c ∷ ys)) (length xs) u (omega arith) (omega arith)))

pub one_text : (x : ℕ) → x < 128 → IsUtf8 (x ∷ [])
one_text x small = IsUtf8-from_ascii (x ∷ []) one
  where
    one : (i : ℕ) → get_or (x ∷ []) i 0 < 128
    one zero = small
    one (suc i) = omega arith

-- a class of ASCII
abbrev pub Small : (ℕ → Bool) → Type 0
Small class = (b : ℕ) → class b ≡ true → b < 128

pub ascii_text : (class : ℕ → Bool) → Small class → (xs : List ℕ) → All class xs → IsUtf8 xs
ascii_text class small [] h = IsUtf8-nil
ascii_text class small (x ∷ xs) h = IsUtf8-append (x ∷ []) xs (one_text x (small x h.0))
    (ascii_text class small xs h.1)

pub past_ascii : (class : ℕ → Bool) → Small class → (xs ys : List ℕ) → All class xs → IsUtf8 (xs ++ ys)
    → IsUtf8 ys
past_ascii class small [] ys h u = u
past_ascii class small (x ∷ xs) ys h u = past_ascii class small xs ys h.1
    (text_behind [] (xs ++ ys) x (small x h.0) u)

pub hex_small : Small is_hex
hex_small b e = grind (arith, nat_tests)

pub bare_small : Small is_bare
bare_small b e = grind (arith, nat_tests)

pub escape_small : Small is_escape
escape_small b e = grind (arith, nat_tests)

pub escaped_small : (c : ℕ) → c < 128 → letter_value c < 128
escaped_small c h = grind (arith, nat_tests)

pub scalar_is : (c : ℕ) → is_scalar c ≡ true → IsScalar c
scalar_is c e = grind (arith, nat_tests)

-- what a basic string says is a text, where the string stands in one
pub says_text : (xs : List ℕ) (ps : List Piece) (rest : List ℕ) → AllByRecursion IsBasicPiece ps
    → IsUtf8 (xs ++ pieces quote ps (quote ∷ rest)) → IsUtf8 (xs ++ decoded_pieces quote ps)
says_text xs [] rest h u = subst IsUtf8 (sym (append-nil xs)) (text_before xs rest quote (lit< tt) u)
says_text xs (plain b ∷ ps) rest h u =
    subst IsUtf8 (append_assoc xs (b ∷ []) (decoded_pieces quote ps))
    (says_text (xs ++ b ∷ []) ps rest h.1
    (subst IsUtf8 (sym (append_assoc xs (b ∷ []) (pieces quote ps (quote ∷ rest)))) u))
says_text xs (letter c ∷ ps) rest h u =
    let small = escape_small c h.0 in
    let more = says_text [] ps rest h.1
    (text_behind [] (pieces quote ps (quote ∷ rest)) c small
    (text_behind xs (c ∷ pieces quote ps (quote ∷ rest)) backslash (lit< tt) u)) in
    IsUtf8-append xs (letter_value c ∷ decoded_pieces quote ps)
    (text_before xs (c ∷ pieces quote ps (quote ∷ rest)) backslash (lit< tt) u)
    (IsUtf8-append (letter_value c ∷ []) (decoded_pieces quote ps) (one_text (letter_value c) (escaped_small c small)) more)
says_text xs (short ds ∷ ps) rest h u =
    let behind = text_behind [] (ds ++ pieces quote ps (quote ∷ rest)) 117 (lit< tt)
    (text_behind xs (117 ∷ (ds ++ pieces quote ps (quote ∷ rest))) backslash (lit< tt) u) in
    let more = says_text [] ps rest h.1
    (past_ascii is_hex hex_small ds (pieces quote ps (quote ∷ rest)) h.0.1 behind) in
    IsUtf8-append xs (encode_utf8 (digits_value 16 ds) ++ decoded_pieces quote ps)
    (text_before xs (117 ∷ (ds ++ pieces quote ps (quote ∷ rest))) backslash (lit< tt) u)
    (IsUtf8-append (encode_utf8 (digits_value 16 ds)) (decoded_pieces quote ps)
    (IsUtf8-encode (digits_value 16 ds) (scalar_is (digits_value 16 ds) h.0.2)) more)
says_text xs (long ds ∷ ps) rest h u =
    let behind = text_behind [] (ds ++ pieces quote ps (quote ∷ rest)) 85 (lit< tt)
    (text_behind xs (85 ∷ (ds ++ pieces quote ps (quote ∷ rest))) backslash (lit< tt) u) in
    let more = says_text [] ps rest h.1
    (past_ascii is_hex hex_small ds (pieces quote ps (quote ∷ rest)) h.0.1 behind) in
    IsUtf8-append xs (encode_utf8 (digits_value 16 ds) ++ decoded_pieces quote ps)
    (text_before xs (85 ∷ (ds ++ pieces quote ps (quote ∷ rest))) backslash (lit< tt) u)
    (IsUtf8-append (encode_utf8 (digits_value 16 ds)) (decoded_pieces quote ps)
    (IsUtf8-encode (digits_value 16 ds) (scalar_is (digits_value 16 ds) h.0.2)) more)
says_text xs (feed e ∷ ps) rest h u = absurd h.0
says_text xs (fold ws e more ∷ ps) rest h u = absurd h.0
says_text xs (delimiter ∷ ps) rest h u = absurd h.0

-- ---- statements and lines

pub ends_line : (bytes : List ℕ) (l : Line) (rest : List ℕ) → Ends bytes (line l rest) → Ends bytes rest
ends_line bytes l rest h = ends_tail bytes (line l rest) rest h
    (line_before (Tail rest) (tail_one rest) l rest rest (tail_end rest))
