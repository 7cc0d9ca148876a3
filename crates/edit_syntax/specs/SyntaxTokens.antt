-- The tokens of a text that a document needs, in the order of the text. A token has the number of
-- bytes from its start and from its end to the end of the text. Each definition takes the text that follows,
-- as the definitions of Grammar do.
use Rattle.std.specs.Prelude.{ℕ, ◌≤◌, true, false, List, [], ◌∷◌, ◌++◌, length, ⊤}
use Rattle.edit_base.specs.declared.errors.Error.{Error}
use Rattle.edit_base.specs.declared.errors.Error.TheVariants.{NotToml, Memory}
use Rattle.edit_syntax.specs.declared.read.syntax_tokens.SyntaxToken.{SyntaxToken}
use Rattle.edit_syntax.specs.declared.read.syntax_tokens.TokenKind.{TokenKind}
use Rattle.edit_syntax.specs.declared.read.syntax_tokens.TokenKind.TheVariants as kinds
use Rattle.edit_syntax.specs.Characters.{comma, equals, right_bracket, right_brace}
use Rattle.edit_syntax.specs.Strings.{◌·◌, line_end, Part, bare, basic_part, literal_part, part, Key, Dotted, dotted}
use Rattle.edit_syntax.specs.Grammar.{Value, basic, literal, multi_basic, multi_literal, boolean, integer, float, datetime, array, inline, Elements, no_elements, last_element, element, Members, no_members, last_member, member, gap, value, elements, members, Statement, pair, header, element_header, statement, comment, Line, empty_line, full_line, Lines, one_line, more_lines, lines, Text}

-- the token that begins where `from` begins and ends before `rest`
abbrev pub token_between : TokenKind → List ℕ → List ℕ → SyntaxToken
token_between kind from rest = record { kind = kind; from = length from; to = length rest }

-- ---- keys

-- the kind of token of a part of a key
abbrev pub part_kind : Part → TokenKind
part_kind (bare text) = kinds.BarePart
part_kind (basic_part ps) = kinds.BasicPart
part_kind (literal_part text) = kinds.LiteralPart

-- the token of a part of a key
abbrev pub token_of_part : Part → List ℕ → SyntaxToken
token_of_part p rest = token_between (part_kind p) (part p rest) rest

-- the tokens of the parts of a key that follow a dot
abbrev pub tokens_of_dotted : List Dotted → List ℕ → List SyntaxToken
tokens_of_dotted [] rest = []
tokens_of_dotted (d ∷ ds) rest = token_of_part d.part (dotted ds rest) ∷ tokens_of_dotted ds rest

-- the tokens of a key, one for each part
abbrev pub tokens_of_key : Key → List ℕ → List SyntaxToken
tokens_of_key k rest = token_of_part k.first (dotted k.others rest) ∷ tokens_of_dotted k.others rest

-- ---- values

-- the token of a value that is a single token
abbrev pub single_token : TokenKind → Value → List ℕ → List SyntaxToken
single_token kind v rest = token_between kind (value v rest) rest ∷ []

abbrev mutual
  -- the tokens of a value: one for a single token; for an array or an inline table an opening one, those of
  -- its items, and a closing one
  pub tokens_of_value : Value → List ℕ → List SyntaxToken
  tokens_of_value (basic ps) rest = single_token kinds.BasicString (basic ps) rest
  tokens_of_value (literal text) rest = single_token kinds.LiteralString (literal text) rest
  tokens_of_value (multi_basic ps) rest = single_token kinds.MultiBasicString (multi_basic ps) rest
  tokens_of_value (multi_literal ps) rest = single_token kinds.MultiLiteralString (multi_literal ps) rest
  tokens_of_value (boolean true) rest = single_token kinds.True (boolean true) rest
  tokens_of_value (boolean false) rest = single_token kinds.False (boolean false) rest
  tokens_of_value (integer n) rest = single_token kinds.Integer (integer n) rest
  tokens_of_value (float f) rest = single_token kinds.Float (float f) rest
  tokens_of_value (datetime d) rest = single_token kinds.DateTime (datetime d) rest
  tokens_of_value (array g es) rest =
      token_between kinds.OpenArray (value (array g es) rest) (gap g (elements es (right_bracket ∷ rest)))
      ∷ (tokens_of_elements es (right_bracket ∷ rest)
      ++ token_between kinds.CloseArray (right_bracket ∷ rest) rest ∷ [])
  tokens_of_value (inline g ms) rest =
      token_between kinds.OpenTable (value (inline g ms) rest) (gap g (members ms (right_brace ∷ rest)))
      ∷ (tokens_of_members ms (right_brace ∷ rest)
      ++ token_between kinds.CloseTable (right_brace ∷ rest) rest ∷ [])

  -- the tokens of the elements of an array
  pub tokens_of_elements : Elements → List ℕ → List SyntaxToken
  tokens_of_elements no_elements rest = []
  tokens_of_elements (last_element v g) rest = tokens_of_value v (gap g rest)
  tokens_of_elements (element v g h es) rest =
      tokens_of_value v (gap g (comma ∷ gap h (elements es rest))) ++ tokens_of_elements es rest

  -- the tokens of the pairs of an inline table: those of the key and then those of the value of each pair
  pub tokens_of_members : Members → List ℕ → List SyntaxToken
  tokens_of_members no_members rest = []
  tokens_of_members (last_member k a b v c) rest =
      tokens_of_key k (a · equals ∷ (b · value v (gap c rest))) ++ tokens_of_value v (gap c rest)
  tokens_of_members (member k a b v c d ms) rest =
      let after = gap c (comma ∷ gap d (members ms rest)) in
      (tokens_of_key k (a · equals ∷ (b · value v after)) ++ tokens_of_value v after)
      ++ tokens_of_members ms rest

-- ---- lines

-- the tokens of a statement; the token of a header follows those of its key
abbrev pub tokens_of_statement : Statement → List ℕ → List SyntaxToken
tokens_of_statement (pair k a b v) rest = tokens_of_key k (a · equals ∷ (b · value v rest))
    ++ tokens_of_value v rest
tokens_of_statement (header a k b) rest =
    tokens_of_key k (b · right_bracket ∷ rest)
    ++ token_between kinds.Header (statement (header a k b) rest) rest ∷ []
tokens_of_statement (element_header a k b) rest =
    tokens_of_key k (b · right_bracket ∷ (right_bracket ∷ rest))
    ++ token_between kinds.ElementHeader (statement (element_header a k b) rest) rest ∷ []

-- the tokens of a line are those of its statement
abbrev pub tokens_of_line : Line → List ℕ → List SyntaxToken
tokens_of_line (empty_line a c) rest = []
tokens_of_line (full_line a s b c) rest = tokens_of_statement s (b · comment c rest)

-- the tokens of all lines
abbrev pub tokens_of_lines : Lines → List SyntaxToken
tokens_of_lines (one_line l) = tokens_of_line l []
tokens_of_lines (more_lines l e ls) = tokens_of_line l (line_end e (lines ls)) ++ tokens_of_lines ls

-- the tokens of a text
abbrev pub tokens_of_text : Text → List SyntaxToken
tokens_of_text t = tokens_of_lines t.lines

-- ---- errors

-- the error of tokenizing a text of n bytes: `Error::Memory`, or `Error::NotToml` with an offset of at most n
abbrev pub IsTokenizeError : ℕ → Error → Type 0
IsTokenizeError n (NotToml at) = at ≤ n
IsTokenizeError n Memory = ⊤
IsTokenizeError n _ = ⊥
