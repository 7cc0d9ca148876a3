-- Strings over several lines as tokens of a text.
use Rattle.std.proofs.Common.{◌≡◌, ℕ, ◌+◌, ◌-◌, ◌<◌, true, List, [], ◌∷◌, ◌++◌, length, length-append, take, drop, Option, Some, refl, sym, ap, subst, ◌∙◌, append_assoc, append-nil, lit<, arith}
use Rattle.std.specs.Prelude.{option_map, encode_utf8, IsUtf8}
use Rattle.std.specs.List.{AllByRecursion}
use Rattle.std.specs.Str.Parse.{digits_value}
use Rattle.std.proofs.lemmas.Bool.Decides.{nat_tests}
use Rattle.std.proofs.lemmas.Str.{IsUtf8-append, IsUtf8-encode}
use Rattle.edit_syntax.specs.declared.read.syntax_tokens.TokenKind.TheVariants as kinds
use Rattle.edit_syntax.specs.Characters.{quote, apostrophe, backslash, is_blank, All}
use Rattle.edit_syntax.specs.Strings.{LineEnd, lf, crlf, line_end, Space, blank, break, spaces, IsSpace, Piece, plain, letter, short, long, feed, fold, delimiter, pieces, IsMultiPiece, IsRawPiece, IsScalarCode, is_escape, letter_value, is_hex, decoded_pieces, decoded_multi}
use Rattle.edit_syntax.specs.Grammar.{three, multi_basic, multi_literal, value, IsValue}
use Rattle.edit_tree.specs.Tree.{string}
use Rattle.edit_syntax.specs.Reading.{◌>>=◌}
use Rattle.edit_tree.specs.Nodes.{scalar}
use Rattle.edit_document.specs.DocumentLayout.{span_of}
use Rattle.edit_syntax.specs.SyntaxTokens.{token_between}
use Rattle.edit_tree.specs.Walk.{suffix, multi_value, as_text, State, value_added, step}
use Rattle.edit_tree.specs.Walk as walk
use Rattle.edit_tree.specs.WalkState.{IsToken}
use Rattle.edit_syntax.proofs.MultiReadAgain.{multi_basic_again, multi_literal_again}
use Rattle.edit_tree.proofs.Ends.{Ends, suffix_is, take_length, text_before, text_behind, one_text, past_ascii, hex_small, escape_small, escaped_small, scalar_is}
use Rattle.edit_tree.proofs.WalkedTokens.{text_is}
use Rattle.edit_syntax.proofs.ValueEdges.{value_rest}
use Rattle.edit_syntax.proofs.PutBefore.{pieces_rest}

-- ---- what these strings say is a text

-- what escapes and folds need
abbrev IsAny : Piece → Type 0
IsAny (plain b) = Unit {0}
IsAny (letter c) = is_escape c ≡ true
IsAny (short digits) = IsScalarCode 4 digits
IsAny (long digits) = IsScalarCode 8 digits
IsAny (feed e) = Unit {0}
IsAny (fold ws e more) = All is_blank ws × AllByRecursion IsSpace more
IsAny delimiter = Unit {0}

basic_any : (ps : List Piece) → AllByRecursion IsMultiPiece ps → AllByRecursion IsAny ps
basic_any [] h = tt
basic_any (plain b ∷ ps) h = (tt, basic_any ps h.1)
basic_any (letter c ∷ ps) h = (h.0, basic_any ps h.1)
basic_any (short digits ∷ ps) h = (h.0, basic_any ps h.1)
basic_any (long digits ∷ ps) h = (h.0, basic_any ps h.1)
basic_any (feed e ∷ ps) h = (tt, basic_any ps h.1)
basic_any (fold ws e more ∷ ps) h = (h.0, basic_any ps h.1)
basic_any (delimiter ∷ ps) h = (tt, basic_any ps h.1)

raw_any : (ps : List Piece) → AllByRecursion IsRawPiece ps → AllByRecursion IsAny ps
raw_any [] h = tt
raw_any (plain b ∷ ps) h = (tt, raw_any ps h.1)
raw_any (letter c ∷ ps) h = absurd h.0
raw_any (short digits ∷ ps) h = absurd h.0
raw_any (long digits ∷ ps) h = absurd h.0
raw_any (feed e ∷ ps) h = (tt, raw_any ps h.1)
raw_any (fold ws e more ∷ ps) h = absurd h.0
raw_any (delimiter ∷ ps) h = (tt, raw_any ps h.1)

blank_small : (b : ℕ) → is_blank b ≡ true → b < 128
blank_small b h = grind (arith, nat_tests)

past_end : (e : LineEnd) (rest : List ℕ) → IsUtf8 (line_end e rest) → IsUtf8 rest
past_end lf rest u = text_behind [] rest 10 (lit< tt) u
past_end crlf rest u = text_behind [] rest 10 (lit< tt) (text_behind [] (10 ∷ rest) 13 (lit< tt) u)

past_spaces : (more : List Space) (rest : List ℕ) → AllByRecursion IsSpace more → IsUtf8 (spaces more rest)
    → IsUtf8 rest
past_spaces [] rest h u = u
past_spaces (blank b ∷ more) rest h u = past_spaces more rest h.1
    (text_behind [] (spaces more rest) b (blank_small b h.0) u)
past_spaces (break e ∷ more) rest h u = past_spaces more rest h.1 (past_end e (spaces more rest) u)

-- one byte more before what is said
byte_text : (xs : List ℕ) (b : ℕ) (tail said_behind : List ℕ)
    → ((ys : List ℕ) → IsUtf8 (ys ++ tail) → IsUtf8 (ys ++ said_behind)) → IsUtf8 (xs ++ (b ∷ tail))
    → IsUtf8 (xs ++ (b ∷ said_behind))
byte_text xs b tail said_behind more u = subst IsUtf8 (append_assoc xs (b ∷ []) said_behind)
    (more (xs ++ b ∷ []) (subst IsUtf8 (sym (append_assoc xs (b ∷ []) tail)) u))

multi_text : (m : ℕ) (xs : List ℕ) (ps : List Piece) (rest : List ℕ) → m < 128 → AllByRecursion IsAny ps
    → IsUtf8 (xs ++ pieces m ps (m ∷ rest)) → IsUtf8 (xs ++ decoded_pieces m ps)
multi_text m xs [] rest small h u = subst IsUtf8 (sym (append-nil xs)) (text_before xs rest m small u)
multi_text m xs (plain b ∷ ps) rest small h u = byte_text xs b (pieces m ps (m ∷ rest)) (decoded_pieces m ps)
    (λ ys v. multi_text m ys ps rest small h.1 v) u
multi_text m xs (letter c ∷ ps) rest small h u =
    let low = escape_small c h.0 in
    let tail = pieces m ps (m ∷ rest) in
    let more = multi_text m [] ps rest small h.1
    (text_behind [] tail c low (text_behind xs (c ∷ tail) backslash (lit< tt) u)) in
    IsUtf8-append xs (letter_value c ∷ decoded_pieces m ps) (text_before xs (c ∷ tail) backslash (lit< tt) u)
    (IsUtf8-append (letter_value c ∷ []) (decoded_pieces m ps) (one_text (letter_value c) (escaped_small c low)) more)
multi_text m xs (short ds ∷ ps) rest small h u =
    let tail = pieces m ps (m ∷ rest) in
    let behind = text_behind [] (ds ++ tail) 117 (lit< tt)
    (text_behind xs (117 ∷ (ds ++ tail)) backslash (lit< tt) u) in
    let more = multi_text m [] ps rest small h.1 (past_ascii is_hex hex_small ds tail h.0.1 behind) in
    IsUtf8-append xs (encode_utf8 (digits_value 16 ds) ++ decoded_pieces m ps)
    (text_before xs (117 ∷ (ds ++ tail)) backslash (lit< tt) u)
    (IsUtf8-append (encode_utf8 (digits_value 16 ds)) (decoded_pieces m ps)
    (IsUtf8-encode (digits_value 16 ds) (scalar_is (digits_value 16 ds) h.0.2)) more)
multi_text m xs (long ds ∷ ps) rest small h u =
    let tail = pieces m ps (m ∷ rest) in
    let behind = text_behind [] (ds ++ tail) 85 (lit< tt)
    (text_behind xs (85 ∷ (ds ++ tail)) backslash (lit< tt) u) in
    let more = multi_text m [] ps rest small h.1 (past_ascii is_hex hex_small ds tail h.0.1 behind) in
    IsUtf8-append xs (encode_utf8 (digits_value 16 ds) ++ decoded_pieces m ps)
    (text_before xs (85 ∷ (ds ++ tail)) backslash (lit< tt) u)
    (IsUtf8-append (encode_utf8 (digits_value 16 ds)) (decoded_pieces m ps)
    (IsUtf8-encode (digits_value 16 ds) (scalar_is (digits_value 16 ds) h.0.2)) more)
multi_text m xs (feed lf ∷ ps) rest small h u = byte_text xs 10 (pieces m ps (m ∷ rest)) (decoded_pieces m ps)
    (λ ys v. multi_text m ys ps rest small h.1 v) u
multi_text m xs (feed crlf ∷ ps) rest small h u =
    byte_text xs 13 (10 ∷ pieces m ps (m ∷ rest)) (10 ∷ decoded_pieces m ps)
    (λ ys v. byte_text ys 10 (pieces m ps (m ∷ rest)) (decoded_pieces m ps)
    (λ zs w. multi_text m zs ps rest small h.1 w) v) u
multi_text m xs (fold ws e more ∷ ps) rest small h u =
    let tail = pieces m ps (m ∷ rest) in
    let behind = text_behind xs (ws ++ line_end e (spaces more tail)) backslash (lit< tt) u in
    let past = past_spaces more tail h.0.1
    (past_end e (spaces more tail)
    (past_ascii is_blank blank_small ws (line_end e (spaces more tail)) h.0.0 behind)) in
    IsUtf8-append xs (decoded_pieces m ps) (text_before xs (ws ++ line_end e (spaces more tail)) backslash (lit< tt) u)
    (multi_text m [] ps rest small h.1 past)
multi_text m xs (delimiter ∷ ps) rest small h u = byte_text xs m (pieces m ps (m ∷ rest)) (decoded_pieces m ps)
    (λ ys v. multi_text m ys ps rest small h.1 v) u

-- without the newline that comes first
whole_text : (m : ℕ) (ps : List Piece) (rest : List ℕ) → m < 128 → AllByRecursion IsAny ps
    → IsUtf8 (pieces m ps (m ∷ rest)) → IsUtf8 (decoded_multi m ps)
whole_text m [] rest small h u = multi_text m [] [] rest small h u
whole_text m (plain b ∷ ps) rest small h u = multi_text m [] (plain b ∷ ps) rest small h u
whole_text m (letter c ∷ ps) rest small h u = multi_text m [] (letter c ∷ ps) rest small h u
whole_text m (short ds ∷ ps) rest small h u = multi_text m [] (short ds ∷ ps) rest small h u
whole_text m (long ds ∷ ps) rest small h u = multi_text m [] (long ds ∷ ps) rest small h u
whole_text m (feed e ∷ ps) rest small h u = multi_text m [] ps rest small h.1
    (past_end e (pieces m ps (m ∷ rest)) u)
whole_text m (fold ws e more ∷ ps) rest small h u = multi_text m [] (fold ws e more ∷ ps) rest small h u
whole_text m (delimiter ∷ ps) rest small h u = multi_text m [] (delimiter ∷ ps) rest small h u

-- ---- tokens

behind_three : (bytes : List ℕ) (m : ℕ) (s : List ℕ) → m < 128 → IsUtf8 bytes → Ends bytes (three m s)
    → IsUtf8 s
behind_three bytes m s small u h = text_behind [] s m small
    (text_behind [] (m ∷ s) m small (text_behind h.0 (m ∷ (m ∷ s)) m small (subst IsUtf8 h.1 u)))

taken : (bytes text rest token_text : List ℕ) → text ≡ token_text ++ rest → Ends bytes text
    → take (length text - length rest) (suffix bytes (length text)) ≡ token_text
taken bytes text rest token_text e ends =
    let size : length text ≡ length token_text + length rest = ap length e ∙ length-append token_text rest in
    let n : length text - length rest ≡ length token_text = omega arith in
    ap (take (length text - length rest)) (suffix_is bytes text ends ∙ e) ∙
    ap (λ (k : ℕ). take k (token_text ++ rest)) n ∙ take_length token_text rest

multi_says : (bytes : List ℕ) (m : ℕ) (ps : List Piece) (rest : List ℕ) → m < 128 → AllByRecursion IsAny ps
    → multi_value m (pieces m ps (three m [])) ≡ Some (decoded_multi m ps)
    → three m (pieces m ps (three m rest)) ≡ three m (pieces m ps (three m [])) ++ rest → IsUtf8 bytes
    → Ends bytes (three m (pieces m ps (three m rest)))
    → (multi_value m (drop 3 (take (length (three m (pieces m ps (three m rest))) - length rest)
    (suffix bytes (length (three m (pieces m ps (three m rest))))))) >>= as_text) ≡ Some (decoded_multi m ps)
multi_says bytes m ps rest small h again whole u ends =
    let text = three m (pieces m ps (three m rest)) in
    let v = whole_text m ps (m ∷ (m ∷ rest)) small h
    (behind_three bytes m (pieces m ps (three m rest)) small u ends) in
    ap (λ (s : List ℕ). multi_value m (drop 3 s) >>= as_text)
    (taken bytes text rest (three m (pieces m ps (three m []))) whole ends) ∙
    ap (λ (o : Option (List ℕ)). o >>= as_text) again ∙ text_is (decoded_multi m ps) v

said_basic : (bytes : List ℕ) (ps : List Piece) (rest : List ℕ) → IsValue (multi_basic ps) → IsUtf8 bytes
    → Ends bytes (value (multi_basic ps) rest)
    → walk.token_value bytes (token_between kinds.MultiBasicString (value (multi_basic ps) rest) rest)
    ≡ Some (decoded_multi quote ps)
unfolding walk.token_value
said_basic bytes ps rest h u ends =
    multi_says bytes quote ps rest (lit< tt) (basic_any ps h.0)
    (ap (option_map (λ (p : List Piece × List ℕ). decoded_multi quote p.0))
    (multi_basic_again ps [] h.0 h.1 h.2 refl)) (value_rest (multi_basic ps) rest) u ends

said_literal : (bytes : List ℕ) (ps : List Piece) (rest : List ℕ) → IsValue (multi_literal ps) → IsUtf8 bytes
    → Ends bytes (value (multi_literal ps) rest)
    → walk.token_value bytes (token_between kinds.MultiLiteralString (value (multi_literal ps) rest) rest)
    ≡ Some (decoded_multi apostrophe ps)
unfolding walk.token_value
said_literal bytes ps rest h u ends =
    multi_says bytes apostrophe ps rest (lit< tt) (raw_any ps h.0)
    (ap (option_map (λ (p : List Piece × List ℕ). decoded_multi apostrophe p.0))
    (multi_literal_again ps [] h.0 h.1 refl)) (value_rest (multi_literal ps) rest) u ends

tripled : (m : ℕ) (ps : List Piece) (rest : List ℕ) → three m (pieces m ps (three m rest))
    ≡ m ∷ (m ∷ (m ∷ (pieces m ps [] ++ (m ∷ (m ∷ (m ∷ rest))))))
tripled m ps rest = ap (three m) (pieces_rest m ps (three m rest))

pub multi_basic_token : (bytes : List ℕ) (ps : List Piece) (rest : List ℕ) → IsValue (multi_basic ps)
    → IsUtf8 bytes → Ends bytes (value (multi_basic ps) rest)
    → IsToken bytes (token_between kinds.MultiBasicString (value (multi_basic ps) rest) rest)
multi_basic_token bytes ps rest h u ends e =
    let w = tripled quote ps rest in (
      decoded_multi quote ps,
      said_basic bytes ps rest h u ends,
      (
        ends.0,
        pieces quote ps [],
        rest,
        ends.1 ∙ ap (λ (t : List ℕ). ends.0 ++ t) w,
        ap length w,
        refl,
        (ps, h.0, h.2, refl, refl),
      ),
    )

pub multi_literal_token : (bytes : List ℕ) (ps : List Piece) (rest : List ℕ) → IsValue (multi_literal ps)
    → IsUtf8 bytes → Ends bytes (value (multi_literal ps) rest)
    → IsToken bytes (token_between kinds.MultiLiteralString (value (multi_literal ps) rest) rest)
multi_literal_token bytes ps rest h u ends e =
    let w = tripled apostrophe ps rest in (
      decoded_multi apostrophe ps,
      said_literal bytes ps rest h u ends,
      (
        ends.0,
        pieces apostrophe ps [],
        rest,
        ends.1 ∙ ap (λ (t : List ℕ). ends.0 ++ t) w,
        ap length w,
        refl,
        (ps, h.0, refl, refl),
      ),
    )

pub multi_basic_step : (bytes : List ℕ) (ps : List Piece) (rest : List ℕ) → IsValue (multi_basic ps)
    → IsUtf8 bytes → Ends bytes (value (multi_basic ps) rest) → (st : State)
    → step bytes (token_between kinds.MultiBasicString (value (multi_basic ps) rest) rest) st
    ≡ value_added st (scalar (string (decoded_multi quote ps))) (Some (span_of (multi_basic ps) rest))
unfolding step
multi_basic_step bytes ps rest h u ends st =
    ap (λ (o : Option (List ℕ)). o >>= λ x. value_added st (scalar (string x))
    (Some (span_of (multi_basic ps) rest))) (said_basic bytes ps rest h u ends)

pub multi_literal_step : (bytes : List ℕ) (ps : List Piece) (rest : List ℕ) → IsValue (multi_literal ps)
    → IsUtf8 bytes → Ends bytes (value (multi_literal ps) rest) → (st : State)
    → step bytes (token_between kinds.MultiLiteralString (value (multi_literal ps) rest) rest) st
    ≡ value_added st (scalar (string (decoded_multi apostrophe ps))) (Some (span_of (multi_literal ps) rest))
unfolding step
multi_literal_step bytes ps rest h u ends st =
    ap (λ (o : Option (List ℕ)). o >>= λ x. value_added st (scalar (string x))
    (Some (span_of (multi_literal ps) rest))) (said_literal bytes ps rest h u ends)
