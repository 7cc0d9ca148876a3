-- What the private functions of the tokenizer guarantee: the rest of the input, and the tokens appended.
use Rattle.std.specs.Prelude.{◌≡◌, ℕ, Bool, true, false, List, [], ◌∷◌, ◌++◌, Option, Some, None, option_map, Result, MatchResult}
use Rattle.std.specs.Borrow.{Bor}
use Rattle.std.specs.Global.{Vec}
use Rattle.edit_syntax.specs.declared.read.bytes.Class.{Class}
use Rattle.edit_syntax.specs.declared.read.bytes.Class.TheVariants.{Blank, Comment, Bare, Basic, Literal, Unescaped, Spacing, Decimal, Hexadecimal, Octal, Binary}
use Rattle.edit_syntax.specs.declared.read.syntax_tokens.SyntaxToken.{SyntaxToken}
use Rattle.edit_syntax.specs.declared.read.syntax_tokens.TokenKind.{TokenKind}
use Rattle.edit_syntax.specs.declared.read.syntax_tokens.TokenKind.TheVariants as kinds
use Rattle.edit_syntax.specs.declared.read.syntax_tokens.ReadError.{ReadError}
use Rattle.edit_syntax.specs.declared.read.syntax_tokens.ReadError.TheVariants.{Memory}
use Rattle.edit_syntax.specs.Characters.{equals, right_bracket, right_brace, is_blank, is_comment_byte, is_bare, is_basic_ch, is_literal_ch, is_unescaped}
use Rattle.edit_syntax.specs.Strings.{◌·◌, Part}
use Rattle.edit_syntax.specs.Decoding.{is_spacing}
use Rattle.edit_syntax.specs.Numbers.{is_decimal, hexadecimal, octal, binary, base_digit}
use Rattle.edit_syntax.specs.Grammar.{Value, basic, literal, multi_basic, multi_literal, boolean, integer, float, datetime, array, inline, value, Elements, Members}
use Rattle.edit_syntax.specs.SyntaxTokens.{token_between, token_of_part, tokens_of_key, tokens_of_value, tokens_of_elements, tokens_of_members}
use Rattle.edit_syntax.specs.Reading.{Read, Pair}

-- the test for the bytes of a class
abbrev pub class_test : Class → ℕ → Bool
class_test Blank = is_blank
class_test Comment = is_comment_byte
class_test Bare = is_bare
class_test Basic = is_basic_ch
class_test Literal = is_literal_ch
class_test Unescaped = is_unescaped
class_test Spacing = is_spacing
class_test Decimal = is_decimal
class_test Hexadecimal = base_digit hexadecimal
class_test Octal = base_digit octal
class_test Binary = base_digit binary

-- the function returns the rest of the input, as the parser of the specification does
abbrev pub Skips : {A : Type 0} → Option (Bor (List ℕ)) → Read A → Type 0
Skips r read = option_map (λ rest. rest.now) r ≡ option_map (λ p. p.1) read

-- the tokens of what was parsed are appended and the rest of the input is returned; an error other than
-- memory means that the parser of the specification fails too
abbrev pub AppendsTokens : {A : Type 0} → (A → List ℕ → List SyntaxToken) → Vec SyntaxToken → Vec SyntaxToken
    → Result (Bor (List ℕ)) ReadError → Read A → Type 0
AppendsTokens {A} tokens_of old new r read =
    MatchResult r (λ rest. (x : A) × (read ≡ Some (x, rest.now))
    × (new.items ≡ old.items ++ tokens_of x rest.now)) (λ e. (e ≡ Memory → ⊥) → read ≡ None)

-- one token is appended, or memory ran out
abbrev pub AppendsToken : Vec SyntaxToken → Vec SyntaxToken → Result (Unit {0}) ReadError → SyntaxToken
    → Type 0
AppendsToken old new r m = MatchResult r (λ _. new.items ≡ old.items ++ m ∷ []) (λ e. e ≡ Memory)

-- the kind of a token, and the rest of the input
abbrev pub token_view : Option (TokenKind × Bor (List ℕ)) → Option (TokenKind × List ℕ)
token_view r = option_map (λ p. (p.0, p.1.now)) r

-- the kind of what was parsed, and the rest of the input
abbrev pub parsed_token : {A : Type 0} → (A → TokenKind) → Read A → Option (TokenKind × List ℕ)
parsed_token kind read = option_map (λ p. (kind p.0, p.1)) read

-- the kind of the first token of a value
abbrev pub value_kind : Value → TokenKind
value_kind (basic ps) = kinds.BasicString
value_kind (literal text) = kinds.LiteralString
value_kind (multi_basic ps) = kinds.MultiBasicString
value_kind (multi_literal ps) = kinds.MultiLiteralString
value_kind (boolean true) = kinds.True
value_kind (boolean false) = kinds.False
value_kind (integer n) = kinds.Integer
value_kind (float f) = kinds.Float
value_kind (datetime d) = kinds.DateTime
value_kind (array g es) = kinds.OpenArray
value_kind (inline g ms) = kinds.OpenTable

-- the tokens of a part of a key: exactly one
abbrev pub tokens_of_part : Part → List ℕ → List SyntaxToken
tokens_of_part p rest = token_of_part p rest ∷ []

-- the tokens of a pair: those of its key and those of its value
abbrev pub tokens_of_pair : Pair → List ℕ → List SyntaxToken
tokens_of_pair p rest =
    tokens_of_key p.key (p.before · equals ∷ (p.behind · value p.value rest)) ++ tokens_of_value p.value rest

-- the tokens of the members of an inline table and of its closing brace
abbrev pub tokens_of_inline_table : Members → List ℕ → List SyntaxToken
tokens_of_inline_table ms rest =
    tokens_of_members ms (right_brace ∷ rest) ++ token_between kinds.CloseTable (right_brace ∷ rest) rest ∷ []

-- the tokens of the elements of an array and of its closing bracket
abbrev pub tokens_of_array : Elements → List ℕ → List SyntaxToken
tokens_of_array es rest =
    tokens_of_elements es (right_bracket ∷ rest)
    ++ token_between kinds.CloseArray (right_bracket ∷ rest) rest ∷ []
