-- Numbers, dates and times as tokens of a text.
use Rattle.std.proofs.Common.{◌≡◌, ℕ, ◌<◌, ◌-◌, true, List, [], ◌∷◌, ◌++◌, length, take, Option, Some, refl, sym, ap, subst, ◌∙◌, arith}
use Rattle.std.specs.List.{AllByRecursion}
use Rattle.std.proofs.lemmas.Bool.Decides.{nat_tests}
use Rattle.edit_syntax.specs.declared.read.syntax_tokens.SyntaxToken.{SyntaxToken}
use Rattle.edit_syntax.specs.declared.read.syntax_tokens.TokenKind.{TokenKind}
use Rattle.edit_syntax.specs.declared.read.syntax_tokens.TokenKind.TheVariants as kinds
use Rattle.edit_syntax.specs.Characters.{is_ascii, All}
use Rattle.edit_syntax.specs.Grammar.{Value, integer, float, datetime, value, IsValue}
use Rattle.edit_syntax.specs.Reading.{◌>>=◌}
use Rattle.edit_tree.specs.Nodes.{scalar_shape}
use Rattle.edit_document.specs.DocumentLayout.{span_of, shape_of_value}
use Rattle.edit_syntax.specs.Decoding.{HasDecodedValue, delimited}
use Rattle.edit_syntax.specs.AppendedTokens.{value_kind}
use Rattle.edit_syntax.specs.SyntaxTokens.{token_between}
use Rattle.edit_tree.specs.Walk.{token_value, suffix, as_text, State, value_added, step}
use Rattle.edit_tree.specs.WalkState.{IsToken, IsDecodedAt}
use Rattle.edit_syntax.proofs.DigitLaws.{IsNumber}
use Rattle.edit_syntax.proofs.ValueEdges.{value_rest, integer_ascii, float_ascii, datetime_ascii}
use Rattle.edit_tree.proofs.Ends.{Ends, Small, ascii_text}
use Rattle.edit_tree.proofs.WalkedTokens.{token_text_read}

-- the text of a number is of ASCII and not empty
abbrev IsPlain : List ℕ → Type 0
IsPlain token_text = (0 < length token_text) × All is_ascii token_text

ascii_is : (b : ℕ) → b < 128 → is_ascii b ≡ true
ascii_is b h = grind (arith, nat_tests)

ascii_small : Small is_ascii
ascii_small b h = grind (arith, nat_tests)

all_ascii : (bytes : List ℕ) → AllByRecursion (λ (b : ℕ). b < 128) bytes → All is_ascii bytes
all_ascii [] h = tt
all_ascii (b ∷ bytes) h = (ascii_is b h.0, all_ascii bytes h.1)

number_plain : (v : Value) → IsValue v → IsNumber v → IsPlain (value v [])
number_plain (integer n) h s = let a = integer_ascii n h in (a.0, all_ascii (value (integer n) []) a.1)
number_plain (float f) h s = let a = float_ascii f h in (a.0, all_ascii (value (float f) []) a.1)
number_plain (datetime d) h s = let a = datetime_ascii d h in (a.0, all_ascii (value (datetime d) []) a.1)
number_plain _ h s = absurd s

-- the token of a number
abbrev token_of_number : Value → List ℕ → SyntaxToken
token_of_number v rest = token_between (value_kind v) (value v rest) rest

plain_token_text : (k : TokenKind) (bytes text rest token_text : List ℕ) → text ≡ token_text ++ rest → IsPlain token_text
    → Ends bytes text → as_text (take (length text - length rest) (suffix bytes (length text))) ≡ Some token_text
plain_token_text k bytes text rest token_text e plain ends =
    let P : List ℕ → Type 0 = λ t. as_text (take (length t - length rest) (suffix bytes (length t)))
    ≡ Some token_text in
    subst P (sym e) (token_text_read bytes token_text rest (ascii_text is_ascii ascii_small token_text plain.1)
    (subst (Ends bytes) e ends))

number_said : (bytes : List ℕ) (v : Value) (rest : List ℕ) → IsValue v → IsNumber v
    → Ends bytes (value v rest) → token_value bytes (token_of_number v rest) ≡ Some (value v [])
unfolding token_value
number_said bytes (integer n) rest h s ends = plain_token_text kinds.Integer bytes (value (integer n) rest) rest
    (value (integer n) []) (value_rest (integer n) rest) (number_plain (integer n) h s) ends
number_said bytes (float f) rest h s ends = plain_token_text kinds.Float bytes (value (float f) rest) rest
    (value (float f) []) (value_rest (float f) rest) (number_plain (float f) h s) ends
number_said bytes (datetime d) rest h s ends = plain_token_text kinds.DateTime bytes (value (datetime d) rest) rest
    (value (datetime d) []) (value_rest (datetime d) rest) (number_plain (datetime d) h s) ends
number_said bytes _ rest h s ends = absurd s

-- a token that nothing delimits stands in the text with this meaning
token_at : (k : TokenKind) (bytes text token_text rest : List ℕ) → text ≡ token_text ++ rest
    → delimited k token_text rest ≡ token_text ++ rest → HasDecodedValue k token_text token_text → (ends : Ends bytes text)
    → token_value bytes (token_between k text rest) ≡ Some token_text
    → (name : List ℕ) × (token_value bytes (token_between k text rest) ≡ Some name) × IsDecodedAt bytes (token_between k text rest) name
token_at k bytes text token_text rest e d says ends is =
    let whole = e ∙ sym d in
    let at = ends.1 ∙ ap (λ (t : List ℕ). ends.0 ++ t) whole in
    (token_text, is, (ends.0, token_text, rest, at, ap length whole, refl, says))

-- the token of a number satisfies the rules of a token
pub number_token : (bytes : List ℕ) (v : Value) (rest : List ℕ) → IsValue v → IsNumber v
    → Ends bytes (value v rest) → IsToken bytes (token_of_number v rest)
number_token bytes (integer n) rest h s ends e =
    let a = number_plain (integer n) h s in
    token_at kinds.Integer bytes (value (integer n) rest) (value (integer n) []) rest
    (value_rest (integer n) rest) refl (a.0, a.1, refl) ends (number_said bytes (integer n) rest h s ends)
number_token bytes (float f) rest h s ends e =
    let a = number_plain (float f) h s in
    token_at kinds.Float bytes (value (float f) rest) (value (float f) []) rest
    (value_rest (float f) rest) refl (a.0, a.1, refl) ends (number_said bytes (float f) rest h s ends)
number_token bytes (datetime d) rest h s ends e =
    let a = number_plain (datetime d) h s in
    token_at kinds.DateTime bytes (value (datetime d) rest) (value (datetime d) []) rest
    (value_rest (datetime d) rest) refl (a.0, a.1, refl) ends (number_said bytes (datetime d) rest h s ends)
number_token bytes _ rest h s ends e = absurd s

-- the walk reads the token of a number as its value
pub number_step : (bytes : List ℕ) (v : Value) (rest : List ℕ) → IsValue v → IsNumber v
    → Ends bytes (value v rest) → (st : State) → step bytes (token_of_number v rest) st
    ≡ value_added st (shape_of_value v) (Some (span_of v rest))
unfolding step
number_step bytes (integer n) rest h s ends st =
    ap (λ (o : Option (List ℕ)). o >>= λ x. value_added st (scalar_shape kinds.Integer x)
    (Some (span_of (integer n) rest))) (number_said bytes (integer n) rest h s ends)
number_step bytes (float f) rest h s ends st =
    ap (λ (o : Option (List ℕ)). o >>= λ x. value_added st (scalar_shape kinds.Float x)
    (Some (span_of (float f) rest))) (number_said bytes (float f) rest h s ends)
number_step bytes (datetime d) rest h s ends st =
    ap (λ (o : Option (List ℕ)). o >>= λ x. value_added st (scalar_shape kinds.DateTime x)
    (Some (span_of (datetime d) rest))) (number_said bytes (datetime d) rest h s ends)
number_step bytes _ rest h s ends st = absurd s
