-- The tokens of a text are where the text has them.
use Rattle.std.proofs.Common.{◌≡◌, ℕ, true, false, List, [], ◌∷◌, ◌++◌, length, refl, ap, ◌∙◌}
use Rattle.std.specs.Prelude.{IsUtf8}
use Rattle.std.specs.List.{AllByRecursion}
use Rattle.edit_syntax.specs.declared.read.syntax_tokens.SyntaxToken.{SyntaxToken}
use Rattle.edit_syntax.specs.declared.read.syntax_tokens.TokenKind.TheVariants as kinds
use Rattle.edit_syntax.specs.Characters.{quote, comma, equals, left_bracket, right_bracket, right_brace, is_blank, is_literal_ch, All}
use Rattle.edit_syntax.specs.Strings.{◌·◌, line_end, Piece, pieces, decoded_pieces, IsBasicPiece, Part, bare, basic_part, literal_part, part, IsPart, name, basic_text, literal_text, Dotted, dotted, Key, IsKey}
use Rattle.edit_syntax.specs.Strings as strings
use Rattle.edit_syntax.specs.Grammar.{gap, Value, basic, literal, multi_basic, multi_literal, boolean, integer, float, datetime, array, inline, value, IsValue, Elements, no_elements, last_element, element, elements, AreElements, Members, no_members, last_member, member, members, AreMembers, Statement, pair, header, element_header, statement, IsStatement, comment, empty_line, full_line, Lines, one_line, more_lines, lines, AreLines, Text}
use Rattle.edit_syntax.specs.SyntaxTokens.{token_between, token_of_part, tokens_of_dotted, tokens_of_key, tokens_of_value, tokens_of_elements, tokens_of_members, tokens_of_statement, tokens_of_lines, tokens_of_text}
use Rattle.edit_tree.specs.Walk.{token_value}
use Rattle.edit_tree.specs.WalkState.{IsToken}
use Rattle.edit_syntax.proofs.PutBefore.{pieces_rest}
use Rattle.edit_tree.proofs.Ends.{Ends, ends_past, ends_one, ends_part, ends_pair, ends_gap, ends_value, ends_line, ends_line_end}
use Rattle.edit_tree.proofs.WalkedTokens.{said_basic, said_literal, said_part}
use Rattle.edit_document.proofs.NumberTokens.{number_token}
use Rattle.edit_document.proofs.MultiTokens.{multi_basic_token, multi_literal_token}

abbrev AreTokens : List ℕ → List SyntaxToken → Type 0
AreTokens bytes tokens = AllByRecursion (IsToken bytes) tokens

tokens_append : (bytes : List ℕ) (xs ys : List SyntaxToken) → AreTokens bytes xs → AreTokens bytes ys
    → AreTokens bytes (xs ++ ys)
tokens_append bytes [] ys h g = g
tokens_append bytes (x ∷ xs) ys h g = (h.0, tokens_append bytes xs ys h.1 g)

basic_parts : (ps : List Piece) (rest : List ℕ) → basic_text ps rest
    ≡ quote ∷ (pieces quote ps [] ++ (quote ∷ rest))
basic_parts ps rest = ap (λ (t : List ℕ). quote ∷ t) (pieces_rest quote ps (quote ∷ rest))

-- ---- one token

pub part_token : (bytes : List ℕ) (p : Part) (rest : List ℕ) → IsPart p → IsUtf8 bytes
    → Ends bytes (part p rest) → IsToken bytes (token_of_part p rest)
part_token bytes (bare text) rest h u ends e = (
  text,
  said_part bytes (bare text) rest h u ends,
  (ends.0, text, rest, ends.1, refl, refl, (h.0, h.1, refl)),
)
part_token bytes (basic_part ps) rest h u ends e = (
  decoded_pieces quote ps,
  said_part bytes (basic_part ps) rest h u ends,
  (
    ends.0,
    pieces quote ps [],
    rest,
    ends.1 ∙ ap (λ (t : List ℕ). ends.0 ++ t) (basic_parts ps rest),
    ap length (basic_parts ps rest),
    refl,
    (ps, h, refl, refl),
  ),
)
part_token bytes (literal_part text) rest h u ends e = (
  text,
  said_part bytes (literal_part text) rest h u ends,
  (ends.0, text, rest, ends.1, refl, refl, (h, refl)),
)

basic_token : (bytes : List ℕ) (ps : List Piece) (rest : List ℕ) → AllByRecursion IsBasicPiece ps
    → IsUtf8 bytes → Ends bytes (basic_text ps rest)
    → IsToken bytes (token_between kinds.BasicString (basic_text ps rest) rest)
unfolding token_value
basic_token bytes ps rest h u ends e = (
  decoded_pieces quote ps,
  said_basic bytes ps rest 0 h u ends,
  (
    ends.0,
    pieces quote ps [],
    rest,
    ends.1 ∙ ap (λ (t : List ℕ). ends.0 ++ t) (basic_parts ps rest),
    ap length (basic_parts ps rest),
    refl,
    (ps, h, refl, refl),
  ),
)

literal_token : (bytes text rest : List ℕ) → All is_literal_ch text → IsUtf8 bytes
    → Ends bytes (literal_text text rest)
    → IsToken bytes (token_between kinds.LiteralString (literal_text text rest) rest)
unfolding token_value
literal_token bytes text rest h u ends e =
    (text, said_literal bytes text rest 0 h u ends, (ends.0, text, rest, ends.1, refl, refl, (h, refl)))

dotted_tokens : (bytes : List ℕ) (ds : List Dotted) (rest : List ℕ)
    → AllByRecursion (λ d. All is_blank d.before × All is_blank d.behind × IsPart d.part) ds → IsUtf8 bytes
    → Ends bytes (dotted ds rest) → AreTokens bytes (tokens_of_dotted ds rest)
dotted_tokens bytes [] rest h u ends = tt
dotted_tokens bytes (d ∷ ds) rest h u ends =
    let here : Ends bytes (part d.part (dotted ds rest)) =
    ends_past bytes d.behind (part d.part (dotted ds rest))
    (ends_one bytes 46 (d.behind ++ part d.part (dotted ds rest))
    (ends_past bytes d.before (46 ∷ (d.behind ++ part d.part (dotted ds rest))) ends)) in (
      part_token bytes d.part (dotted ds rest) h.0.2 u here,
      dotted_tokens bytes ds rest h.1 u (ends_part bytes d.part (dotted ds rest) here),
    )

key_tokens : (bytes : List ℕ) (k : Key) (rest : List ℕ) → IsKey k → IsUtf8 bytes
    → Ends bytes (strings.key k rest) → AreTokens bytes (tokens_of_key k rest)
key_tokens bytes k rest h u ends = (
  part_token bytes k.first (dotted k.others rest) h.0 u ends,
  dotted_tokens bytes k.others rest h.1 u (ends_part bytes k.first (dotted k.others rest) ends),
)

-- ---- values and members

mutual
  value_tokens : (bytes : List ℕ) (v : Value) (rest : List ℕ) → IsValue v → IsUtf8 bytes
      → Ends bytes (value v rest) → AreTokens bytes (tokens_of_value v rest)
  value_tokens bytes (basic ps) rest h u ends = (basic_token bytes ps rest h u ends, tt)
  value_tokens bytes (literal text) rest h u ends = (literal_token bytes text rest h u ends, tt)
  value_tokens bytes (multi_basic ps) rest h u ends = (multi_basic_token bytes ps rest h u ends, tt)
  value_tokens bytes (multi_literal ps) rest h u ends = (multi_literal_token bytes ps rest h u ends, tt)
  value_tokens bytes (boolean true) rest h u ends = ((λ e. absurd cc), tt)
  value_tokens bytes (boolean false) rest h u ends = ((λ e. absurd cc), tt)
  value_tokens bytes (integer n) rest h u ends = (number_token bytes (integer n) rest h tt ends, tt)
  value_tokens bytes (float f) rest h u ends = (number_token bytes (float f) rest h tt ends, tt)
  value_tokens bytes (datetime d) rest h u ends = (number_token bytes (datetime d) rest h tt ends, tt)
  value_tokens bytes (array g es) rest h u ends =
      let inside : Ends bytes (elements es (right_bracket ∷ rest)) =
      ends_gap bytes g (elements es (right_bracket ∷ rest))
      (ends_one bytes 91 (gap g (elements es (right_bracket ∷ rest))) ends) in (
        (λ e. absurd cc),
        tokens_append bytes (tokens_of_elements es (right_bracket ∷ rest))
            (token_between kinds.CloseArray (right_bracket ∷ rest) rest ∷ [])
            (elements_tokens bytes es (right_bracket ∷ rest) h.1 u inside) ((λ e. absurd cc), tt),
      )
  value_tokens bytes (inline g ms) rest h u ends =
      let inside : Ends bytes (members ms (right_brace ∷ rest)) =
      ends_gap bytes g (members ms (right_brace ∷ rest))
      (ends_one bytes 123 (gap g (members ms (right_brace ∷ rest))) ends) in (
        (λ e. absurd cc),
        tokens_append bytes (tokens_of_members ms (right_brace ∷ rest))
            (token_between kinds.CloseTable (right_brace ∷ rest) rest ∷ [])
            (members_tokens bytes ms (right_brace ∷ rest) h.1 u inside) ((λ e. absurd cc), tt),
      )

  elements_tokens : (bytes : List ℕ) (es : Elements) (rest : List ℕ) → AreElements es → IsUtf8 bytes
      → Ends bytes (elements es rest) → AreTokens bytes (tokens_of_elements es rest)
  elements_tokens bytes no_elements rest h u ends = tt
  elements_tokens bytes (last_element v g) rest h u ends = value_tokens bytes v (gap g rest) h.0 u ends
  elements_tokens bytes (element v g h2 es) rest h u ends =
      let after = gap g (comma ∷ gap h2 (elements es rest)) in
      let more_ends : Ends bytes (elements es rest) = ends_gap bytes h2 (elements es rest)
      (ends_one bytes comma (gap h2 (elements es rest))
      (ends_gap bytes g (comma ∷ gap h2 (elements es rest)) (ends_value bytes v after ends))) in
      tokens_append bytes (tokens_of_value v after) (tokens_of_elements es rest)
      (value_tokens bytes v after h.0 u ends) (elements_tokens bytes es rest h.3 u more_ends)

  members_tokens : (bytes : List ℕ) (ms : Members) (rest : List ℕ) → AreMembers ms → IsUtf8 bytes
      → Ends bytes (members ms rest) → AreTokens bytes (tokens_of_members ms rest)
  members_tokens bytes no_members rest h u ends = tt
  members_tokens bytes (last_member k a b v c) rest h u ends =
      let after = gap c rest in
      tokens_append bytes (tokens_of_key k (a ++ (equals ∷ (b ++ value v after)))) (tokens_of_value v after)
      (key_tokens bytes k (a ++ (equals ∷ (b ++ value v after))) h.0 u ends)
      (value_tokens bytes v after h.3 u (ends_pair bytes k a b (value v after) ends))
  members_tokens bytes (member k a b v c d ms) rest h u ends =
      let after = gap c (comma ∷ gap d (members ms rest)) in
      let value_ends : Ends bytes (value v after) = ends_pair bytes k a b (value v after) ends in
      let more_ends : Ends bytes (members ms rest) = ends_gap bytes d (members ms rest)
      (ends_one bytes comma (gap d (members ms rest))
      (ends_gap bytes c (comma ∷ gap d (members ms rest)) (ends_value bytes v after value_ends))) in
      tokens_append bytes (tokens_of_key k (a ++ (equals ∷ (b ++ value v after))) ++ tokens_of_value v after)
      (tokens_of_members ms rest)
      (tokens_append bytes (tokens_of_key k (a ++ (equals ∷ (b ++ value v after)))) (tokens_of_value v after)
      (key_tokens bytes k (a ++ (equals ∷ (b ++ value v after))) h.0 u ends)
      (value_tokens bytes v after h.3 u value_ends))
      (members_tokens bytes ms rest h.6 u more_ends)

-- ---- statements and lines

statement_tokens : (bytes : List ℕ) (s : Statement) (rest : List ℕ) → IsStatement s → IsUtf8 bytes
    → Ends bytes (statement s rest) → AreTokens bytes (tokens_of_statement s rest)
statement_tokens bytes (pair k a b v) rest h u ends =
    tokens_append bytes (tokens_of_key k (a ++ (equals ∷ (b ++ value v rest)))) (tokens_of_value v rest)
    (key_tokens bytes k (a ++ (equals ∷ (b ++ value v rest))) h.0 u ends)
    (value_tokens bytes v rest h.3 u (ends_pair bytes k a b (value v rest) ends))
statement_tokens bytes (header a k b) rest h u ends =
    let key_ends : Ends bytes (strings.key k (b ++ (right_bracket ∷ rest))) =
    ends_past bytes a (strings.key k (b ++ (right_bracket ∷ rest)))
    (ends_one bytes left_bracket (a ++ strings.key k (b ++ (right_bracket ∷ rest))) ends) in
    tokens_append bytes (tokens_of_key k (b ++ (right_bracket ∷ rest)))
    (token_between kinds.Header (statement (header a k b) rest) rest ∷ [])
    (key_tokens bytes k (b ++ (right_bracket ∷ rest)) h.1 u key_ends) ((λ e. absurd cc), tt)
statement_tokens bytes (element_header a k b) rest h u ends =
    let end = b ++ (right_bracket ∷ (right_bracket ∷ rest)) in
    let key_ends : Ends bytes (strings.key k end) = ends_past bytes a (strings.key k end)
    (ends_one bytes left_bracket (a ++ strings.key k end)
    (ends_one bytes left_bracket (left_bracket ∷ (a ++ strings.key k end)) ends)) in
    tokens_append bytes (tokens_of_key k end)
    (token_between kinds.ElementHeader (statement (element_header a k b) rest) rest ∷ [])
    (key_tokens bytes k end h.1 u key_ends) ((λ e. absurd cc), tt)

lines_tokens : (bytes : List ℕ) (ls : Lines) → AreLines ls → IsUtf8 bytes → Ends bytes (lines ls)
    → AreTokens bytes (tokens_of_lines ls)
lines_tokens bytes (one_line (empty_line a c)) h u ends = tt
lines_tokens bytes (one_line (full_line a st b c)) h u ends =
    statement_tokens bytes st (b ++ comment c []) h.1 u
    (ends_past bytes a (statement st (b ++ comment c [])) ends)
lines_tokens bytes (more_lines (empty_line a c) e ls) h u ends =
    lines_tokens bytes ls h.1 u
    (ends_line_end bytes e (lines ls) (ends_line bytes (empty_line a c) (line_end e (lines ls)) ends))
lines_tokens bytes (more_lines (full_line a st b c) e ls) h u ends =
    let after = b ++ comment c (line_end e (lines ls)) in
    tokens_append bytes (tokens_of_statement st after) (tokens_of_lines ls)
    (statement_tokens bytes st after h.0.1 u (ends_past bytes a (statement st after) ends))
    (lines_tokens bytes ls h.1 u
    (ends_line_end bytes e (lines ls) (ends_line bytes (full_line a st b c) (line_end e (lines ls)) ends)))

pub text_tokens : (bytes : List ℕ) (form : Text) → AreLines form.lines → IsUtf8 bytes
    → Ends bytes (lines form.lines) → AllByRecursion (IsToken bytes) (tokens_of_text form)
text_tokens bytes form h u ends = lines_tokens bytes form.lines h u ends
