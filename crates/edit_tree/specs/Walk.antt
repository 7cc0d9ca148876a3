-- How the nodes of a text are built from its tokens, one after the other. The contracts of private functions
-- cite these definitions; proofs/ relates them to the assertions of a syntax tree.
use Rattle.std.specs.Prelude.{ℕ, ◌-◌, Bool, true, false, nat_le, nat_lt, if◌then◌else◌, List, [], ◌∷◌, ◌++◌, length, take, drop, slice_get, slice_set, Option, Some, None, option_map, option_to_list, unwrap_or}
use Rattle.std.specs.Str.{is_utf8}
use Rattle.edit_syntax.specs.declared.read.syntax_tokens.SyntaxToken.{SyntaxToken}
use Rattle.edit_syntax.specs.declared.read.syntax_tokens.TokenKind.{TokenKind}
use Rattle.edit_syntax.specs.declared.read.syntax_tokens.TokenKind.TheVariants as kinds
use Rattle.edit_syntax.specs.declared.span.Span.{Span}
use Rattle.edit_tree.specs.declared.nodes.DefinedBy.{DefinedBy}
use Rattle.edit_tree.specs.declared.nodes.DefinedBy.TheVariants.{Dotted, Value, Super, Header, Array, Element}
use Rattle.edit_syntax.specs.Characters.{quote, apostrophe}
use Rattle.edit_syntax.specs.Strings.{decoded_pieces, decoded_multi}
use Rattle.edit_syntax.specs.Reading.{◌>>=◌, basic_at, literal_at, multi_at}
use Rattle.edit_tree.specs.Assertions.{Place, key, index, at}
use Rattle.edit_tree.specs.Tree.{truth}
use Rattle.edit_tree.specs.Nodes.{Shape, scalar_shape, scalar, listed, inline, section, sections, ModelNode, below}
use Rattle.edit_tree.specs.Redefinition.{can_extend, merged_definition}

-- the last number of a list
abbrev pub last_of : List ℕ → Option ℕ
last_of numbers = slice_get numbers (length numbers - 1)

-- ---- decoded tokens

-- the suffix of the text with this number of bytes
abbrev pub suffix : List ℕ → ℕ → List ℕ
suffix bytes n = drop (length bytes - n) bytes

-- the decoded value of a basic string; the input begins behind its opening quote
abbrev pub basic_value : List ℕ → Option (List ℕ)
basic_value text = option_map (λ p. decoded_pieces quote p.0) (basic_at text)

-- the decoded value of a literal string; the input begins behind its opening apostrophe
abbrev pub literal_value : List ℕ → Option (List ℕ)
literal_value text = option_map (λ p. p.0) (literal_at text)

-- the decoded value of a multi-line string; the input begins behind its opening delimiter
abbrev pub multi_value : ℕ → List ℕ → Option (List ℕ)
multi_value delimiter_byte text =
    option_map (λ p. decoded_multi delimiter_byte p.0) (multi_at delimiter_byte text)

-- the decoded value of a token of this kind and length at the front of a text
abbrev pub decoded_prefix : TokenKind → List ℕ → ℕ → Option (List ℕ)
decoded_prefix kinds.BarePart text n = Some (take n text)
decoded_prefix kinds.BasicPart text n = basic_value (drop 1 text)
decoded_prefix kinds.LiteralPart text n = literal_value (drop 1 text)
decoded_prefix kinds.BasicString text n = basic_value (drop 1 text)
decoded_prefix kinds.LiteralString text n = literal_value (drop 1 text)
decoded_prefix kinds.MultiBasicString text n = multi_value quote (drop 3 (take n text))
decoded_prefix kinds.MultiLiteralString text n = multi_value apostrophe (drop 3 (take n text))
decoded_prefix kinds.Integer text n = Some (take n text)
decoded_prefix kinds.Float text n = Some (take n text)
decoded_prefix kinds.DateTime text n = Some (take n text)
decoded_prefix _ text n = None

-- the bytes, where they are UTF-8
abbrev pub as_text : List ℕ → Option (List ℕ)
as_text bytes = if is_utf8 bytes then Some bytes else None

-- the decoded value of a token
unfoldable pub token_value : List ℕ → SyntaxToken → Option (List ℕ)
token_value bytes m = decoded_prefix m.kind (suffix bytes m.from) (m.from - m.to) >>= as_text

-- ---- nodes

-- a node without members and elements
abbrev pub model_node_at : Place → Shape → DefinedBy → Option Span → ModelNode
model_node_at place shape taken span =
    record { place = place; shape = shape; taken = taken; members = []; elements = []; span = span }

-- the index of the member of this name of the node at an index
unfoldable pub child : List ModelNode → ℕ → List ℕ → Option ℕ
child models number name = slice_get models number >>= λ s. below s (key name)

-- the index of the last table of an array of tables
abbrev pub last_table : Shape → List ℕ → Option ℕ
last_table sections numbers = last_of numbers
last_table _ numbers = None

-- the index of the node to extend: a header that passes through an array of tables refers to its last element
unfoldable pub target_of : List ModelNode → ℕ → DefinedBy → ℕ
target_of models number Super =
    unwrap_or (slice_get models number >>= λ s. last_table s.shape s.elements) number
target_of models number _ = number

-- a node with another way in which it counts as defined
abbrev pub with_definition : ModelNode → DefinedBy → ModelNode
with_definition s taken = record s { taken = merged_definition s.taken taken }

-- the nodes after one is extended; none where TOML does not allow it
unfoldable pub node_extended : List ModelNode → ℕ → DefinedBy → Option (List ModelNode)
node_extended models number taken = slice_get models number >>= λ s.
    if can_extend s.taken taken then Some (slice_set models number (with_definition s taken)) else None

-- a node with one more member
abbrev pub with_member : ModelNode → List ℕ → ℕ → ModelNode
with_member s name number = record s { members = s.members ++ (name, number) ∷ [] }

-- a node with one more element
abbrev pub with_element : ModelNode → ℕ → ModelNode
with_element s number = record s { elements = s.elements ++ number ∷ [] }

-- the nodes with a new member of one of them, and the index of the new one; none beyond 80 steps
unfoldable pub member_added : List ModelNode → ℕ → List ℕ → Shape → DefinedBy → Option Span
    → Option (List ModelNode × ℕ)
member_added models number name shape taken span = slice_get models number >>= λ s.
    if nat_le 80 (length s.place) then None
    else Some (
      slice_set models number (with_member s name (length models))
          ++ model_node_at (at s.place (key name)) shape taken span ∷ [],
      length models,
    )

-- the nodes with a new element of one of them, and the index of the new one; none beyond 80 steps
unfoldable pub element_added : List ModelNode → ℕ → Shape → DefinedBy → Option Span
    → Option (List ModelNode × ℕ)
element_added models number shape taken span = slice_get models number >>= λ s.
    if nat_le 80 (length s.place) then None
    else Some (
      slice_set models number (with_element s (length models))
          ++ model_node_at (at s.place (index (length s.elements))) shape taken span ∷ [],
      length models,
    )

-- the nodes, with the index of one of them
abbrev pub with_index : ℕ → Option (List ModelNode) → Option (List ModelNode × ℕ)
with_index number o = option_map (λ models. (models, number)) o

-- the nodes after the member at this index is extended, or after a member is added where there is none
abbrev pub member_defined_at : Option ℕ → List ModelNode → ℕ → List ℕ → Shape → DefinedBy → Option Span
    → Option (List ModelNode × ℕ)
member_defined_at None models number name shape taken span = member_added models number name shape taken span
member_defined_at (Some j) models number name shape taken span =
    with_index (target_of models j taken) (node_extended models (target_of models j taken) taken)

-- the nodes after a member of one of them is defined, and the index of the defined node
unfoldable pub member_defined : List ModelNode → ℕ → List ℕ → Shape → DefinedBy → Option Span
    → Option (List ModelNode × ℕ)
member_defined models number name shape taken span =
    member_defined_at (child models number name) models number name shape taken span

-- the shape of a table that a front part of a key makes
abbrev pub front_shape : Bool → Shape
front_shape is_inline = if is_inline then inline else section

-- the nodes after all front parts of a key are followed from a table on, and the index of the table of its
-- last part
unfoldable pub fronts_followed : List ModelNode → ℕ → List (List ℕ) → Shape → DefinedBy
    → Option (List ModelNode × ℕ)
fronts_followed models number [] shape taken = Some (models, number)
fronts_followed models number (name ∷ names) shape taken =
    member_defined models number name shape taken None >>= λ r. fronts_followed r.0 r.1 names shape taken

-- ---- the walk

-- the state of the walk: the nodes so far, the indices of the open tables and arrays (the innermost last),
-- and the pending key, split into its last part and the parts before it
pub record State : Type 0 where
  pub models : List ModelNode
  pub tables : List ℕ
  pub fronts : List (List ℕ)
  pub name : Option (List ℕ)

-- the list without its last number
abbrev pub without_last : List ℕ → List ℕ
without_last numbers = take (length numbers - 1) numbers

-- the state with a part appended to the pending key
abbrev pub with_key_part : State → List ℕ → State
with_key_part st name = record st { fronts = st.fronts ++ option_to_list st.name; name = Some name }

-- a state without a pending key
abbrev pub without_pending : List ModelNode → List ℕ → State
without_pending models tables = record { models = models; tables = tables; fronts = []; name = None }

-- a dotted key is in an inline table: more tables are open than that of the header
abbrev pub is_dotted_within : ℕ → DefinedBy → Bool
is_dotted_within count Dotted = nat_lt 1 count
is_dotted_within count _ = false

-- the state after the pending key is defined below a table, and the index of its node
unfoldable pub pending_defined : State → ℕ → DefinedBy → Shape → DefinedBy → Option Span → Option (State × ℕ)
pending_defined st number front shape taken span = st.name
    >>= λ name. fronts_followed st.models number st.fronts
    (front_shape (is_dotted_within (length st.tables) front)) front >>= λ r.
    member_defined r.0 r.1 name shape taken span >>= λ q. Some (without_pending q.0 st.tables, q.1)

-- the state after a value becomes the member of the pending key, or an element where no key is pending
abbrev pub value_added_below : Option (List ℕ) → State → ℕ → Shape → Option Span → Option (State × ℕ)
value_added_below (Some name) st number shape span = pending_defined st number Dotted shape Value span
value_added_below None st number shape span =
    element_added st.models number shape Value span >>= λ q. Some (record st { models = q.0 }, q.1)

-- the state after a value is added to the innermost table or array, and the index of its node
abbrev pub value_added_at : State → Shape → Option Span → Option (State × ℕ)
value_added_at st shape span = last_of st.tables >>= λ number. value_added_below st.name st number shape span

-- the state after a value is added to the innermost table or array
abbrev pub value_added : State → Shape → Option Span → Option State
value_added st shape span = value_added_at st shape span >>= λ r. Some r.0

-- the state after an array or an inline table is opened
abbrev pub value_opened : State → Shape → Option Span → Option State
value_opened st shape span =
    value_added_at st shape span >>= λ r. Some (record r.0 { tables = r.0.tables ++ r.1 ∷ [] })

-- the state after the innermost array or inline table is closed; its text ends n bytes before the end of the
-- text
abbrev pub value_closed : State → ℕ → Option State
value_closed st to = last_of st.tables >>= λ number. slice_get st.models number >>= λ s. s.span >>= λ span.
    Some (record st {
      models = slice_set st.models number
          (record s { span = Some (record { from = span.from; to = to }) });
      tables = without_last st.tables;
    })

-- the state with one table open and no other
abbrev pub with_only_table : State × ℕ → State
with_only_table r = record r.0 { tables = r.1 ∷ [] }

-- the state after the pending key becomes a header `[key]`
abbrev pub table_opened : State → Option State
table_opened st = pending_defined st 0 Super section Header None >>= λ r. Some (with_only_table r)

-- the state after the pending key becomes a header `[[key]]`
abbrev pub array_table_opened : State → Option State
array_table_opened st =
    pending_defined st 0 Super sections Array None >>= λ r.
    element_added r.0.models r.1 section Element None >>= λ q.
    Some (with_only_table (record r.0 { models = q.0 }, q.1))

-- the span of a token
abbrev pub span_of_token : SyntaxToken → Span
span_of_token m = record { from = m.from; to = m.to }

-- the state after a string, a number, a date or a time is added
abbrev pub scalar_added : List ℕ → SyntaxToken → State → Option State
scalar_added bytes m st = token_value bytes m >>= λ text. value_added st (scalar_shape m.kind text) (Some
    (span_of_token m))

-- the state after a token of this kind
abbrev pub act : TokenKind → List ℕ → SyntaxToken → State → Option State
act kinds.BarePart bytes m st = token_value bytes m >>= λ name. Some (with_key_part st name)
act kinds.BasicPart bytes m st = token_value bytes m >>= λ name. Some (with_key_part st name)
act kinds.LiteralPart bytes m st = token_value bytes m >>= λ name. Some (with_key_part st name)
act kinds.BasicString bytes m st = scalar_added bytes m st
act kinds.LiteralString bytes m st = scalar_added bytes m st
act kinds.MultiBasicString bytes m st = scalar_added bytes m st
act kinds.MultiLiteralString bytes m st = scalar_added bytes m st
act kinds.Integer bytes m st = scalar_added bytes m st
act kinds.Float bytes m st = scalar_added bytes m st
act kinds.DateTime bytes m st = scalar_added bytes m st
act kinds.True bytes m st = value_added st (scalar (truth true)) (Some (span_of_token m))
act kinds.False bytes m st = value_added st (scalar (truth false)) (Some (span_of_token m))
act kinds.OpenArray bytes m st = value_opened st listed (Some (span_of_token m))
act kinds.CloseArray bytes m st = value_closed st m.to
act kinds.OpenTable bytes m st = value_opened st inline (Some (span_of_token m))
act kinds.CloseTable bytes m st = value_closed st m.to
act kinds.Header bytes m st = table_opened st
act kinds.ElementHeader bytes m st = array_table_opened st

-- the state after a token
unfoldable pub step : List ℕ → SyntaxToken → State → Option State
step bytes m st = act m.kind bytes m st

-- the state at the start, with the root alone
abbrev pub start : State
start = without_pending (model_node_at [] section Header None ∷ []) (0 ∷ [])

-- the state after a list of tokens
unfoldable pub state_after : List ℕ → List SyntaxToken → State → Option State
state_after bytes [] st = Some st
state_after bytes (m ∷ ms) st = step bytes m st >>= λ next. state_after bytes ms next
