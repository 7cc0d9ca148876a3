-- What is taken off the front of a JSON text, whatever follows it.
use Rattle.std.specs.Prelude.{◌≡◌, ℕ, List, ◌∷◌, ◌++◌, Some, false, take, true}
use Rattle.json.specs.Lex.{after_value, begins_colon, between, in_string, lex, punctuate, tokens}
use Rattle.json.specs.Text.{content, plain}
use Rattle.json.specs.Token.{Token, key, string}
use Rattle.json.specs.Word.{ends_word}
use Rattle.serde_json.specs.Data.{Data}
use Rattle.edit_json.specs.Reads.{ReadsValue}

-- the relation holds of a text and its rest, and also with any other text in place of the rest that begins
-- with the same byte, or is empty as the rest is (own)
pub record Takes (Relates : List ℕ → List ℕ → Type 0) (text rest : List ℕ) : Type 0 where
  pub front : List ℕ
  pub whole : text ≡ front ++ rest
  pub local : (other : List ℕ) → take 1 other ≡ take 1 rest → Relates (front ++ other) other

-- a text within a string has a content, and the string ends before the rest (own)
abbrev pub ClosesString : List ℕ → List ℕ → Type 0
ClosesString text rest =
    ((s : List ℕ) × (content plain text ≡ Some s)) × (lex in_string text ≡ lex between rest)

-- between tokens the two texts have the same lexemes (own)
abbrev pub HasSameLexemes : List ℕ → List ℕ → Type 0
HasSameLexemes text rest = lex between text ≡ lex between rest

-- after a value, a text has the tokens of the rest; a literal may end where the text begins, and so may a
-- string that is no key (own)
pub record Follows (text rest : List ℕ) : Type 0 where
  pub tokens : punctuate after_value (lex between text) ≡ tokens rest
  pub delimited : ends_word text ≡ true
  pub no_key : begins_colon (lex between text) ≡ false

-- the first token of a text, before the tokens of the rest (own)
abbrev pub BeginsWith : Token → List ℕ → List ℕ → Type 0
BeginsWith token text rest = tokens text ≡ token ∷ tokens rest

-- the first token of a text is a string (own)
abbrev pub BeginsWithString : List ℕ → List ℕ → Type 0
BeginsWithString text rest = (s : List ℕ) × BeginsWith (string s) text rest

-- the first token of a text is a key (own)
abbrev pub BeginsWithKey : List ℕ → List ℕ → Type 0
BeginsWithKey text rest = (k : List ℕ) × BeginsWith (key k) text rest

-- a text begins with the tokens of a value, nested at most this deep (own)
abbrev pub BeginsWithValue : ℕ → List ℕ → List ℕ → Type 0
BeginsWithValue depth text rest = (d : Data) × ReadsValue depth (tokens text) d (tokens rest)
