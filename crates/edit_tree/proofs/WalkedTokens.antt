-- Decoded values of tokens, and the walk over the tokens of a key.
use Rattle.std.proofs.Common.{◌≡◌, ℕ, ◌+◌, ◌-◌, ◌<◌, List, [], ◌∷◌, ◌++◌, length, take, drop, Option, Some, refl, sym, ap, subst, ◌∙◌, append_assoc, length-append, lit<, arith}
use Rattle.std.specs.Prelude.{map, option_map, IsUtf8}
use Rattle.std.specs.List.{AllByRecursion}
use Rattle.std.proofs.lemmas.List.{append-nil}
use Rattle.std.proofs.lemmas.Str.{is_utf8-from_IsUtf8}
use Rattle.edit_syntax.specs.declared.read.syntax_tokens.SyntaxToken.{SyntaxToken}
use Rattle.edit_syntax.specs.Characters.{quote, apostrophe, is_blank, is_bare, is_literal_ch, All}
use Rattle.edit_syntax.specs.Strings.{Piece, pieces, decoded_pieces, IsBasicPiece, Part, bare, basic_part, literal_part, part, IsPart, name, basic_text, literal_text, Dotted, dotted, Key, IsKey}
use Rattle.edit_syntax.specs.Strings as strings
use Rattle.edit_tree.specs.Assertions.{names}
use Rattle.edit_syntax.specs.Reading.{◌>>=◌}
use Rattle.edit_tree.specs.Nodes.{ModelNode}
use Rattle.edit_tree.specs.Walk.{suffix, basic_value, literal_value, as_text, token_value, State, with_key_part, without_pending, step, state_after}
use Rattle.edit_syntax.specs.SyntaxTokens.{token_of_part, tokens_of_dotted, tokens_of_key}
use Rattle.edit_syntax.proofs.TokenLaws.{basic_again, literal_again}
use Rattle.edit_tree.proofs.Ends.{Ends, ends_past, ends_one, ends_part, suffix_is, take_length, text_before, text_behind, ascii_text, bare_small, says_text}
use Rattle.edit_tree.proofs.Walks.{walked_first}

-- ---- what tokens say

pub text_is : (bytes : List ℕ) → IsUtf8 bytes → as_text bytes ≡ Some bytes
text_is bytes u = rw (is_utf8-from_IsUtf8 bytes u) refl

behind_ascii : (bytes : List ℕ) (c : ℕ) (s : List ℕ) → c < 128 → IsUtf8 bytes → Ends bytes (c ∷ s) → IsUtf8 s
behind_ascii bytes c s small u h = text_behind h.0 s c small (subst IsUtf8 h.1 u)

pub said_basic : (bytes : List ℕ) (ps : List Piece) (rest : List ℕ) (n : ℕ) → AllByRecursion IsBasicPiece ps
    → IsUtf8 bytes → Ends bytes (basic_text ps rest)
    → (basic_value (drop 1 (suffix bytes (length (basic_text ps rest)))) >>= as_text) ≡ Some (decoded_pieces quote ps)
said_basic bytes ps rest n h u ends =
    let u2 = says_text [] ps rest h
    (behind_ascii bytes quote (pieces quote ps (quote ∷ rest)) (lit< tt) u ends) in
    ap (λ (s : List ℕ). basic_value (drop 1 s) >>= as_text) (suffix_is bytes (basic_text ps rest) ends)
    ∙ ap (λ (o : Option (List Piece × List ℕ)). option_map
    (λ (p : List Piece × List ℕ). decoded_pieces quote p.0) o >>= as_text) (basic_again ps rest h) ∙
    text_is (decoded_pieces quote ps) u2

pub said_literal : (bytes text rest : List ℕ) (n : ℕ) → All is_literal_ch text → IsUtf8 bytes
    → Ends bytes (literal_text text rest)
    → (literal_value (drop 1 (suffix bytes (length (literal_text text rest)))) >>= as_text) ≡ Some text
said_literal bytes text rest n h u ends =
    let u2 = text_before text rest apostrophe (lit< tt)
    (behind_ascii bytes apostrophe (text ++ (apostrophe ∷ rest)) (lit< tt) u ends) in
    ap (λ (s : List ℕ). literal_value (drop 1 s) >>= as_text) (suffix_is bytes (literal_text text rest) ends)
    ∙ ap (λ (o : Option (List ℕ × List ℕ)). option_map (λ (p : List ℕ × List ℕ). p.0) o >>= as_text)
    (literal_again text rest h) ∙ text_is text u2

-- a token that is written as it is
pub token_text_read : (bytes token_text rest : List ℕ) → IsUtf8 token_text → Ends bytes (token_text ++ rest)
    → as_text (take (length (token_text ++ rest) - length rest) (suffix bytes (length (token_text ++ rest)))) ≡ Some token_text
token_text_read bytes token_text rest u ends =
    let size : length (token_text ++ rest) ≡ length token_text + length rest = length-append token_text rest in
    let n : length (token_text ++ rest) - length rest ≡ length token_text = omega arith in
    ap (λ (s : List ℕ). as_text (take (length (token_text ++ rest) - length rest) s))
    (suffix_is bytes (token_text ++ rest) ends)
    ∙ ap (λ (k : ℕ). as_text (take k (token_text ++ rest))) n ∙ ap as_text (take_length token_text rest) ∙ text_is token_text u

pub said_part : (bytes : List ℕ) (p : Part) (rest : List ℕ) → IsPart p → IsUtf8 bytes
    → Ends bytes (part p rest) → token_value bytes (token_of_part p rest) ≡ Some (name p)
unfolding token_value
said_part bytes (bare text) rest h u ends = token_text_read bytes text rest
    (ascii_text is_bare bare_small text h.1) ends
said_part bytes (basic_part ps) rest h u ends = said_basic bytes ps rest 0 h u ends
said_part bytes (literal_part text) rest h u ends = said_literal bytes text rest 0 h u ends

-- ---- keys

part_step : (bytes : List ℕ) (p : Part) (rest : List ℕ) (st : State) → IsPart p → IsUtf8 bytes
    → Ends bytes (part p rest) → step bytes (token_of_part p rest) st ≡ Some (with_key_part st (name p))
unfolding step
part_step bytes (bare text) rest st h u ends = ap (λ (o : Option (List ℕ)). o >>= λ n. Some (with_key_part st n))
    (said_part bytes (bare text) rest h u ends)
part_step bytes (basic_part ps) rest st h u ends =
    ap (λ (o : Option (List ℕ)). o >>= λ n. Some (with_key_part st n))
    (said_part bytes (basic_part ps) rest h u ends)
part_step bytes (literal_part text) rest st h u ends =
    ap (λ (o : Option (List ℕ)). o >>= λ n. Some (with_key_part st n))
    (said_part bytes (literal_part text) rest h u ends)

-- the names wait one behind the other
abbrev pub waits : State → List (List ℕ) → State
waits st [] = st
waits st (n ∷ ns) = waits (with_key_part st n) ns

abbrev IsDotted : Dotted → Type 0
IsDotted d = All is_blank d.before × All is_blank d.behind × IsPart d.part

walked_dotted : (bytes : List ℕ) (ds : List Dotted) (rest : List ℕ) (ms : List SyntaxToken) (st : State)
    → AllByRecursion IsDotted ds → IsUtf8 bytes → Ends bytes (dotted ds rest)
    → state_after bytes (tokens_of_dotted ds rest ++ ms) st ≡ state_after bytes ms
    (waits st (map (λ (d : Dotted). name d.part) ds))
walked_dotted bytes [] rest ms st h u ends = refl
walked_dotted bytes (d ∷ ds) rest ms st h u ends =
    let here : Ends bytes (part d.part (dotted ds rest)) =
    ends_past bytes d.behind (part d.part (dotted ds rest))
    (ends_one bytes 46 (d.behind ++ part d.part (dotted ds rest))
    (ends_past bytes d.before (46 ∷ (d.behind ++ part d.part (dotted ds rest))) ends)) in
    walked_first bytes (token_of_part d.part (dotted ds rest)) (tokens_of_dotted ds rest ++ ms) st
    (with_key_part st (name d.part)) (part_step bytes d.part (dotted ds rest) st h.0.2 u here)
    ∙ walked_dotted bytes ds rest ms (with_key_part st (name d.part)) h.1 u
    (ends_part bytes d.part (dotted ds rest) here)

-- the tokens of a key leave its names waiting
pub walked_key : (bytes : List ℕ) (k : Key) (rest : List ℕ) (ms : List SyntaxToken) (st : State) → IsKey k
    → IsUtf8 bytes → Ends bytes (strings.key k rest) → state_after bytes (tokens_of_key k rest ++ ms) st
    ≡ state_after bytes ms (waits st (names k))
walked_key bytes k rest ms st h u ends =
    walked_first bytes (token_of_part k.first (dotted k.others rest)) (tokens_of_dotted k.others rest ++ ms) st
    (with_key_part st (name k.first)) (part_step bytes k.first (dotted k.others rest) st h.0 u ends)
    ∙ walked_dotted bytes k.others rest ms (with_key_part st (name k.first)) h.1 u
    (ends_part bytes k.first (dotted k.others rest) ends)

-- the names before the last one, and the last one
abbrev pub fore : List ℕ → List (List ℕ) → List (List ℕ)
fore n [] = []
fore n (m ∷ ns) = n ∷ fore m ns

abbrev pub rear : List ℕ → List (List ℕ) → List ℕ
rear n [] = n
rear n (m ∷ ns) = rear m ns

waits_behind : (models : List ModelNode) (tables : List ℕ) (fs : List (List ℕ)) (n : List ℕ) (ns : List (List ℕ))
    → waits (record { models = models; tables = tables; fronts = fs; name = Some n }) ns
    ≡ record { models = models; tables = tables; fronts = fs ++ fore n ns; name = Some (rear n ns) }
waits_behind models tables fs n [] =
    ap (λ (xs : List (List ℕ)). let st : State = record {
      models = models;
      tables = tables;
      fronts = xs;
      name = Some n;
    } in st) (sym (append-nil fs))
waits_behind models tables fs n (m ∷ ns) =
    waits_behind models tables (fs ++ n ∷ []) m ns
    ∙ ap (λ (xs : List (List ℕ)). let st : State = record {
      models = models;
      tables = tables;
      fronts = xs;
      name = Some (rear m ns);
    } in st) (append_assoc fs (n ∷ []) (fore m ns))

pub waits_are : (models : List ModelNode) (tables : List ℕ) (n : List ℕ) (ns : List (List ℕ))
    → waits (without_pending models tables) (n ∷ ns)
    ≡ record { models = models; tables = tables; fronts = fore n ns; name = Some (rear n ns) }
waits_are models tables n ns = waits_behind models tables [] n ns
