-- The state of the search for a place after some statements of a text.
use Rattle.std.specs.Prelude.{◌≡◌, ℕ, suc, Bool, true, false, List, length, Option, Some}
use Rattle.edit_syntax.specs.declared.read.syntax_tokens.SyntaxToken.{SyntaxToken}
use Rattle.edit_syntax.specs.declared.read.syntax_tokens.TokenKind.{TokenKind}
use Rattle.edit_syntax.specs.declared.read.syntax_tokens.TokenKind.TheVariants as kinds
use Rattle.edit_syntax.specs.Strings.{key as key_text}
use Rattle.edit_syntax.specs.Grammar.{Statement, header, element_header}
use Rattle.edit_rewrite.specs.declared.locate.SearchState.{SearchState}
use Rattle.edit_rewrite.specs.declared.locate.StatementOffsets.{StatementOffsets}
use Rattle.edit_tree.specs.Assertions.{Place, Assertion}
use Rattle.edit_tree.specs.Statements.{PlacedStatement, parts}
use Rattle.edit_rewrite.specs.Entries.{path_match, Counts, kind_after_key, AreParts, key_of}

-- the state after these assertions, below this header
pub record IsSearchState (target : Place) (earlier : List Assertion) (prefix : Place)
    (standing : SearchState) : Type 0 where
  pub under : standing.prefix ≡ path_match target prefix
  pub size : length standing.counts.items ≡ suc (length target)
  pub counts : Counts target earlier standing.counts.items

-- the statement is a header `[key]`
abbrev pub is_table_header : Statement → Bool
is_table_header (header a k b) = true
is_table_header _ = false

-- the statement is a header `[[key]]`
abbrev pub is_element_header : Statement → Bool
is_element_header (element_header a k b) = true
is_element_header _ = false

-- the token behind the key is that of a header `[key]`
abbrev pub is_table_header_next : Option TokenKind → Bool
is_table_header_next (Some kinds.Header) = true
is_table_header_next _ = false

-- the token behind the key is that of a header `[[key]]`
abbrev pub is_element_header_next : Option TokenKind → Bool
is_element_header_next (Some kinds.ElementHeader) = true
is_element_header_next _ = false

-- the token behind the key is of the kind that the statement requires
abbrev pub HeadIs : Statement → Option TokenKind → Type 0
HeadIs s head = (is_table_header_next head ≡ is_table_header s)
    × (is_element_header_next head ≡ is_element_header s)

-- the tokens and the offsets are those of the statement
pub record IsTokenized (bytes : List ℕ) (tokens : List SyntaxToken) (s : PlacedStatement)
    (offsets : StatementOffsets) : Type 0 where
  pub are_parts : AreParts bytes (parts (key_of s).0 (key_of s).1) tokens
  pub head : HeadIs s.statement (kind_after_key tokens)
  pub line : offsets.line ≡ length s.line
  pub key : offsets.key ≡ length (key_text (key_of s).0 (key_of s).1)
  pub after : offsets.after ≡ length s.after
  pub next : offsets.next ≡ length s.next
