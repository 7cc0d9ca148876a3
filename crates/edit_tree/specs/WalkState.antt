-- How the code represents the state of the walk over tokens.
use Rattle.std.specs.Prelude.{◌≡◌, ℕ, Bool, true, false, List, ◌++◌, length, map, Option, Some, None, option_map}
use Rattle.edit_syntax.specs.declared.read.syntax_tokens.SyntaxToken.{SyntaxToken}
use Rattle.edit_syntax.specs.declared.read.syntax_tokens.TokenKind.{TokenKind}
use Rattle.edit_syntax.specs.declared.read.syntax_tokens.TokenKind.TheVariants as kinds
use Rattle.edit_tree.specs.declared.nodes.Node.{Node}
use Rattle.edit_tree.specs.declared.walk.Walk.{Walk}
use Rattle.edit_syntax.specs.Decoding.{delimited, HasDecodedValue}
use Rattle.edit_tree.specs.Nodes.{ModelNode, bytes_of, RepresentsNodes}
use Rattle.edit_tree.specs.Walk.{State, token_value}

-- the nodes represent the result, or there is no result and the function returns false
abbrev pub HasNodes : List ℕ → List Node → Option (List ModelNode) → Bool → Type 0
HasNodes text nodes made true = (models : List ModelNode) × (made ≡ Some models)
    × RepresentsNodes text nodes models
HasNodes text nodes made false = made ≡ None

-- the nodes represent the result and the returned index is that of the result, or there is none
abbrev pub HasNodeAt : List ℕ → List Node → Option (List ModelNode × ℕ) → Option ℕ → Type 0
HasNodeAt text nodes made None = made ≡ None
HasNodeAt text nodes made (Some number) =
    (models : List ModelNode) × (made ≡ Some (models, number)) × RepresentsNodes text nodes models

-- the walk represents this state
pub record Walks (text : List ℕ) (walk : Walk) (st : State) : Type 0 where
  pub holds : RepresentsNodes text walk.nodes.items st.models
  pub tables : walk.tables.items ≡ st.tables
  pub fronts : map (bytes_of text) walk.fronts.items ≡ st.fronts
  pub name : option_map (bytes_of text) walk.name ≡ st.name

-- the walk represents the next state, or there is none and the function returns false
abbrev pub HasNextState : List ℕ → Walk → Option State → Bool → Type 0
HasNextState text walk next true = (st : State) × (next ≡ Some st) × Walks text walk st
HasNextState text walk next false = next ≡ None

-- the walk represents the next state and the returned index is that of the result, or there is none
abbrev pub HasDefinedState : List ℕ → Walk → Option (State × ℕ) → Option ℕ → Type 0
HasDefinedState text walk next None = next ≡ None
HasDefinedState text walk next (Some number) = (st : State) × (next ≡ Some (st, number)) × Walks text walk st

-- the nodes represent those of a state
abbrev pub KeepsState : List ℕ → List Node → Option State → Type 0
KeepsState text nodes None = ⊥
KeepsState text nodes (Some st) = RepresentsNodes text nodes st.models

-- ---- tokens

-- the token is in the text and has this decoded value
abbrev pub IsDecodedAt : List ℕ → SyntaxToken → List ℕ → Type 0
IsDecodedAt bytes m name =
    (before : List ℕ) × (content : List ℕ) × (rest : List ℕ)
    × (bytes ≡ before ++ delimited m.kind content rest)
    × (m.from ≡ length (delimited m.kind content rest)) × (m.to ≡ length rest)
    × HasDecodedValue m.kind content name

-- tokens of this kind have a decoded value
abbrev pub has_token_value : TokenKind → Bool
has_token_value kinds.BarePart = true
has_token_value kinds.BasicPart = true
has_token_value kinds.LiteralPart = true
has_token_value kinds.BasicString = true
has_token_value kinds.LiteralString = true
has_token_value kinds.MultiBasicString = true
has_token_value kinds.MultiLiteralString = true
has_token_value kinds.Integer = true
has_token_value kinds.Float = true
has_token_value kinds.DateTime = true
has_token_value _ = false

-- the token is in the text; where its kind has a decoded value, it is the one that the walk computes
abbrev pub IsToken : List ℕ → SyntaxToken → Type 0
IsToken bytes m = has_token_value m.kind ≡ true
    → (name : List ℕ) × (token_value bytes m ≡ Some name) × IsDecodedAt bytes m name
