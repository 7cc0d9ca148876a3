-- The walk over the tokens of statements, lines and texts.
use Rattle.std.proofs.Common.{◌≡◌, ℕ, false, List, [], ◌∷◌, ◌++◌, map, Option, Some, None, refl, sym, ap, subst, ◌∙◌, append_assoc}
use Rattle.std.specs.Prelude.{IsUtf8}
use Rattle.std.proofs.lemmas.List.{append-nil, map-append}
use Rattle.edit_syntax.specs.declared.read.syntax_tokens.SyntaxToken.{SyntaxToken}
use Rattle.edit_syntax.specs.declared.read.syntax_tokens.TokenKind.TheVariants as kinds
use Rattle.edit_syntax.specs.Characters.{equals, left_bracket, right_bracket}
use Rattle.edit_syntax.specs.Strings.{◌·◌, LineEnd, line_end, name, Dotted as DottedPart, Key}
use Rattle.edit_syntax.specs.Strings as strings
use Rattle.edit_syntax.specs.Grammar.{value, Statement, pair, header, element_header, statement, IsStatement, comment, empty_line, full_line, Lines, one_line, more_lines, lines, AreLines, Text}
use Rattle.edit_tree.specs.Assertions.{Place, Assertion, names, prefix_after, of_statement, of_lines, assertions}
use Rattle.edit_tree.specs.Written.{in_statement, in_lines, values}
use Rattle.edit_document.specs.DocumentLayout.{Placed, placed}
use Rattle.edit_syntax.specs.Reading.{◌>>=◌}
use Rattle.edit_tree.specs.Nodes.{ModelNode, StandsAt}
use Rattle.edit_tree.specs.Walk.{State, without_pending, start, state_after}
use Rattle.edit_syntax.specs.SyntaxTokens.{token_between, tokens_of_value, tokens_of_statement, tokens_of_lines, tokens_of_text}
use Rattle.edit_tree.proofs.Ends.{Ends, ends_past, ends_one, ends_pair, ends_line, ends_line_end}
use Rattle.edit_tree.proofs.MoreAssertions.{IsClear, clear_front}
use Rattle.edit_document.proofs.AssertedModels.{Stands, stands_start}
use Rattle.edit_tree.proofs.ArrayCounts.{IsEven, even_statement}
use Rattle.edit_tree.proofs.Walks.{walked_none, walked_append}
use Rattle.edit_tree.proofs.WalkedTokens.{waits, walked_key}
use Rattle.edit_document.proofs.WalkedValues.{value_leads}
use Rattle.edit_document.proofs.BeforeValues.{pair_before, pair_is_before}
use Rattle.edit_document.proofs.WalkedHolders.{spans}
use Rattle.edit_document.proofs.WalkedHeaders.{PlacedStatement, placed_statements, halts, stated_along, key_names, pair_stated, header_stated, element_stated}

-- ---- statements

statement_stated : (bytes : List ℕ) (s : Statement) (rest : List ℕ) (models : List ModelNode)
    (made : List Assertion) (written : List Placed) (t : ℕ) (p : Place) → IsStatement s → IsUtf8 bytes
    → Ends bytes (statement s rest)
    → Stands made written models → IsEven made → StandsAt models t p
    → PlacedStatement models (made ++ of_statement made p s) (written ++ spans (in_statement p s rest))
    (prefix_after made p s) (state_after bytes (tokens_of_statement s rest) (without_pending models (t ∷ [])))
statement_stated bytes (pair k a b v) rest models made written t p h u ends st even there =
    let before = pair_before models made written [] t p false (name k.first) (key_names k) in
    stated_along (walked_key bytes k (a ++ (equals ∷ (b ++ value v rest))) (tokens_of_value v rest)
    (without_pending models (t ∷ [])) h.0 u ends)
    (pair_stated models (made ++ of_statement made p (pair k a b v))
    (written ++ spans (in_statement p (pair k a b v) rest)) t p
    (state_after bytes (tokens_of_value v rest) (waits (without_pending models (t ∷ [])) (names k))) there
    (value_leads bytes v rest before h.3 u (ends_pair bytes k a b (value v rest) ends)
    (pair_is_before models made written [] t p false (name k.first) (key_names k) st there refl)))
statement_stated bytes (header a k b) rest models made written t p h u ends st even there =
    let whole = statement (header a k b) rest in
    let key_ends : Ends bytes (strings.key k (b ++ (right_bracket ∷ rest))) =
    ends_past bytes a (strings.key k (b ++ (right_bracket ∷ rest)))
    (ends_one bytes left_bracket (a ++ strings.key k (b ++ (right_bracket ∷ rest))) ends) in
    subst (λ (w : List Placed). PlacedStatement models (made ++ of_statement made p (header a k b)) w
    (prefix_after made p (header a k b))
    (state_after bytes (tokens_of_statement (header a k b) rest) (without_pending models (t ∷ []))))
    (sym (append-nil written))
    (stated_along (walked_key bytes k (b ++ (right_bracket ∷ rest)) (token_between kinds.Header whole rest ∷ [])
    (without_pending models (t ∷ [])) h.1 u key_ends)
    (header_stated bytes models t made written k whole rest st even))
statement_stated bytes (element_header a k b) rest models made written t p h u ends st even there =
    let whole = statement (element_header a k b) rest in
    let end = b ++ (right_bracket ∷ (right_bracket ∷ rest)) in
    let key_ends : Ends bytes (strings.key k end) = ends_past bytes a (strings.key k end)
    (ends_one bytes left_bracket (a ++ strings.key k end)
    (ends_one bytes left_bracket (left_bracket ∷ (a ++ strings.key k end)) ends)) in
    subst (λ (w : List Placed). PlacedStatement models (made ++ of_statement made p (element_header a k b)) w
    (prefix_after made p (element_header a k b))
    (state_after bytes (tokens_of_statement (element_header a k b) rest) (without_pending models (t ∷ []))))
    (sym (append-nil written))
    (stated_along (walked_key bytes k end (token_between kinds.ElementHeader whole rest ∷ [])
    (without_pending models (t ∷ [])) h.1 u key_ends)
    (element_stated bytes models t made written k whole rest st even))

-- ---- lines

-- the walk ends with these assertions, or they clash
pub data Walked (made : List Assertion) (written : List Placed) (r : Option State) : Type 0 where
  ended : (now : List ModelNode) (tables : List ℕ) → r ≡ Some (without_pending now tables)
      → Stands made written now
      → Walked made written r
  stuck : r ≡ None → (IsClear made → ⊥) → Walked made written r

clear_lines : (made : List Assertion) (p : Place) (ls : Lines) → IsClear (of_lines made p ls) → IsClear made
clear_lines made p (one_line (empty_line a c)) h = h
clear_lines made p (one_line (full_line a s b c)) h = clear_front made (of_statement made p s) h
clear_lines made p (more_lines (empty_line a c) e ls) h = clear_lines made p ls h
clear_lines made p (more_lines (full_line a s b c) e ls) h =
    clear_front made (of_statement made p s)
    (clear_lines (made ++ of_statement made p s) (prefix_after made p s) ls h)

-- a statement and then lines
then_lines : (bytes : List ℕ) (xs ys : List SyntaxToken) (st : State) (models : List ModelNode)
    (made finally : List Assertion) (written rest : List Placed) (p : Place)
    → PlacedStatement models made written p (state_after bytes xs st) → (IsClear finally → IsClear made)
    → ((now : List ModelNode) (j : ℕ) → Stands made written now → StandsAt now j p
    → Walked finally rest (state_after bytes ys (without_pending now (j ∷ []))))
    → Walked finally rest (state_after bytes (xs ++ ys) st)
then_lines bytes xs ys st models made finally written rest p (placed_statements now j e s there g) back then =
    go (then now j s there)
  where
    path : state_after bytes (xs ++ ys) st ≡ state_after bytes ys (without_pending now (j ∷ []))
    path = walked_append bytes xs ys st ∙ ap (λ (o : Option State). o >>= state_after bytes ys) e

    go : Walked finally rest (state_after bytes ys (without_pending now (j ∷ [])))
        → Walked finally rest (state_after bytes (xs ++ ys) st)
    go (ended later tables f s2) = ended later tables (path ∙ f) s2
    go (stuck f c) = stuck (path ∙ f) c
then_lines bytes xs ys st models made finally written rest p (halts e c) back then =
    stuck (walked_append bytes xs ys st ∙ ap (λ (o : Option State). o >>= state_after bytes ys) e)
    (λ clear. c (back clear))

last_line : {models : List ModelNode} {made : List Assertion} {written : List Placed} {p : Place} {r : Option State}
    → PlacedStatement models made written p r → Walked made written r
last_line (placed_statements now j e s there g) = ended now (j ∷ []) e s
last_line (halts e c) = stuck e c

pub lines_walked : (bytes : List ℕ) (ls : Lines) (models : List ModelNode) (made : List Assertion)
    (written : List Placed) (t : ℕ) (p : Place) → AreLines ls → IsUtf8 bytes → Ends bytes (lines ls)
    → Stands made written models → IsEven made → StandsAt models t p
    → Walked (of_lines made p ls) (written ++ spans (in_lines made p ls))
    (state_after bytes (tokens_of_lines ls) (without_pending models (t ∷ [])))
lines_walked bytes (one_line (empty_line a c)) models made written t p h u ends st even there =
    ended models (t ∷ []) (walked_none bytes (without_pending models (t ∷ [])))
    (subst (λ (w : List Placed). Stands made w models) (sym (append-nil written)) st)
lines_walked bytes (one_line (full_line a s b c)) models made written t p h u ends st even there =
    last_line (statement_stated bytes s (b ++ comment c []) models made written t p h.1 u
    (ends_past bytes a (statement s (b ++ comment c [])) ends) st even there)
lines_walked bytes (more_lines (empty_line a c) e ls) models made written t p h u ends st even there =
    lines_walked bytes ls models made written t p h.1 u
    (ends_line_end bytes e (lines ls) (ends_line bytes (empty_line a c) (line_end e (lines ls)) ends)) st even
    there
lines_walked bytes (more_lines (full_line a s b c) e ls) models made written t p h u ends st even there =
    let after = b ++ comment c (line_end e (lines ls)) in
    let more_ends : Ends bytes (lines ls) = ends_line_end bytes e (lines ls)
    (ends_line bytes (full_line a s b c) (line_end e (lines ls)) ends) in
    let next = made ++ of_statement made p s in
    let here = spans (in_statement p s after) in
    let one = statement_stated bytes s after models made written t p h.0.1 u
    (ends_past bytes a (statement s after) ends) st even there in
    let all = then_lines bytes (tokens_of_statement s after) (tokens_of_lines ls)
    (without_pending models (t ∷ [])) models next (of_lines next (prefix_after made p s) ls) (written ++ here)
    ((written ++ here) ++ spans (in_lines next (prefix_after made p s) ls)) (prefix_after made p s) one
    (clear_lines next (prefix_after made p s) ls)
    (λ now j st2 there2. lines_walked bytes ls now next (written ++ here) j
    (prefix_after made p s) h.1 u more_ends st2 (even_statement made p s even) there2) in
    subst (λ (w : List Placed). Walked (of_lines made p (more_lines (full_line a s b c) e ls)) w
    (state_after bytes (tokens_of_lines (more_lines (full_line a s b c) e ls)) (without_pending models (t ∷ []))))
    (append_assoc written here (spans (in_lines next (prefix_after made p s) ls)) ∙
    ap (λ (w : List Placed). written ++ w)
    (sym (map-append placed (in_statement p s after) (in_lines next (prefix_after made p s) ls)))) all

-- the walk over the tokens of a text
pub text_walked : (bytes : List ℕ) (form : Text) → AreLines form.lines → IsUtf8 bytes
    → Ends bytes (lines form.lines)
    → Walked (assertions form) (map placed (values form)) (state_after bytes (tokens_of_text form) start)
text_walked bytes form h u ends = lines_walked bytes form.lines _ [] [] 0 [] h u ends stands_start
    (λ p. refl) stands_start.tree.root

-- and as many arrays as elements are asserted
pub text_even : (form : Text) → IsEven (assertions form)
text_even form = lines_even form.lines [] [] (λ p. refl)
  where
    lines_even : (ls : Lines) (made : List Assertion) (p : Place) → IsEven made → IsEven (of_lines made p ls)
    lines_even (one_line (empty_line a c)) made p e = e
    lines_even (one_line (full_line a s b c)) made p e = even_statement made p s e
    lines_even (more_lines (empty_line a c) end ls) made p e = lines_even ls made p e
    lines_even (more_lines (full_line a s b c) end ls) made p e =
        lines_even ls (made ++ of_statement made p s) (prefix_after made p s) (even_statement made p s e)
