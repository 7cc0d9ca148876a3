-- The model of a document's nodes: one for each place that a statement defines, the root first and then in
-- the order of first definitions.
use Rattle.std.specs.Prelude.{◌≡◌, ℕ, ⊤, List, [], length, map, drop, slice_get, Option, Some, None, String, string_bytes, ◌⊎◌}
use Rattle.std.specs.Global.{Box, Global}
use Rattle.std.specs.Map.{lookup}
use Rattle.std.specs.Str.{bytes_eq}
use Rattle.std.specs.BTreeMap.{BTreeMap, get_by_text}
use Rattle.edit_syntax.specs.declared.span.Span.{Span}
use Rattle.edit_syntax.specs.Spans.{bytes_at}
use Rattle.edit_tree.specs.declared.nodes.DecodedText.{DecodedText}
use Rattle.edit_tree.specs.declared.nodes.DecodedText.TheVariants.{Verbatim, Made}
use Rattle.edit_tree.specs.declared.nodes.Content.{Content}
use Rattle.edit_tree.specs.declared.nodes.Content.TheVariants as content
use Rattle.edit_tree.specs.declared.nodes.DefinedBy.{DefinedBy}
use Rattle.edit_tree.specs.declared.nodes.Lookup.{Lookup}
use Rattle.edit_tree.specs.declared.nodes.Member.{Member}
use Rattle.edit_tree.specs.declared.nodes.MemberList.{MemberList}
use Rattle.edit_tree.specs.declared.members.Parts.{Parts}
use Rattle.edit_tree.specs.declared.members.Parts.TheVariants as parts
use Rattle.edit_tree.specs.declared.members.Members.{Members}
use Rattle.edit_tree.specs.declared.nodes.Node.{Node}
use Rattle.edit_tree.specs.Assertions.{Step, key, index, Place, at}
use Rattle.edit_syntax.specs.declared.read.syntax_tokens.TokenKind.{TokenKind}
use Rattle.edit_syntax.specs.declared.read.syntax_tokens.TokenKind.TheVariants as kinds
use Rattle.edit_tree.specs.Tree.{View, string, truth, whole, fractional, moment, static_array, table_array, inline_table, table}

-- the kind and content of a node, without its members
pub data Shape : Type 0 where
  scalar : View → Shape
  listed : Shape
  inline : Shape
  section : Shape
  sections : Shape

-- the shape of a value with a token of this kind and this decoded text (own)
abbrev pub scalar_shape : TokenKind → List ℕ → Shape
scalar_shape kinds.Integer text = scalar (whole text)
scalar_shape kinds.Float text = scalar (fractional text)
scalar_shape kinds.DateTime text = scalar (moment text)
scalar_shape _ text = scalar (string text)

-- a node of the model: its place, its shape, how it was defined, the names and node indices of its members in
-- the order of first definitions, the node indices of its elements, and the span of its value
pub record ModelNode : Type 0 where
  pub place : Place
  pub shape : Shape
  pub taken : DefinedBy
  pub members : List (List ℕ × ℕ)
  pub elements : List ℕ
  pub span : Option Span

-- the names of a node's members
abbrev pub names_of : ModelNode → List (List ℕ)
names_of s = map (λ e. e.0) s.members

-- the view of a node with this shape, these member names and this number of elements
abbrev pub view_of_shape : Shape → List (List ℕ) → ℕ → View
view_of_shape (scalar v) names n = v
view_of_shape listed names n = static_array n
view_of_shape inline names n = inline_table (map key names)
view_of_shape section names n = table (map key names)
view_of_shape sections names n = table_array n

-- the place of a node and its view
abbrev pub model_node_view : ModelNode → Place × View
model_node_view s = (s.place, view_of_shape s.shape (names_of s) (length s.elements))

-- ---- how the table of nodes represents the model

-- the decoded text of a string or of a part of a key
abbrev pub bytes_of : List ℕ → DecodedText → List ℕ
bytes_of text (Verbatim span) = bytes_at text span
bytes_of text (Made boxed) = string_bytes boxed.value

-- the shape that the content of a node represents
abbrev pub shape_of : List ℕ → Content → Shape
shape_of text (content.Text decoded) = scalar (string (bytes_of text decoded))
shape_of text (content.Truth b) = scalar (truth b)
shape_of text (content.Integer span) = scalar (whole (bytes_at text span))
shape_of text (content.Float span) = scalar (fractional (bytes_at text span))
shape_of text (content.DateTime span) = scalar (moment (bytes_at text span))
shape_of text content.Array = listed
shape_of text content.Inline = inline
shape_of text content.Table = section
shape_of text content.Tables = sections

-- the index stored for a name; none where there is no map
abbrev pub number_by : Option (Box (BTreeMap (String Global) ℕ)) → List ℕ → Option ℕ
number_by None name = None
number_by (Some boxed) name = get_by_text boxed.value name

-- the index that a lookup has for a name
abbrev pub number_of : Lookup → List ℕ → Option ℕ
number_of names name = number_by names.table name

-- the decoded names of a list of members, each with its node index
abbrev pub entries_in : List ℕ → List Member → List (List ℕ × ℕ)
entries_in text members = map (λ e. (bytes_of text e.name, e.number)) members

-- the decoded names of the members of a list, each with its node index
abbrev pub entries_listed : List ℕ → MemberList → List (List ℕ × ℕ)
entries_listed text members = entries_in text members.list.items

-- the decoded names of the members among the parts below a node, each with its node index
abbrev pub entries_by : List ℕ → Parts → List (List ℕ × ℕ)
entries_by text parts.Nothing = []
entries_by text (parts.Members members) = entries_listed text members.value
entries_by text (parts.Elements elements) = []
entries_by text (parts.Both pair) = entries_listed text pair.value.members.value

-- the decoded names of all members, each with its node index
abbrev pub entries_of : List ℕ → Members → List (List ℕ × ℕ)
entries_of text members = entries_by text members.parts

-- the numbers of the elements among parts
abbrev pub elements_by : Parts → List ℕ
elements_by parts.Nothing = []
elements_by (parts.Members members) = []
elements_by (parts.Elements elements) = elements.value.items
elements_by (parts.Both pair) = pair.value.elements.value.items

-- the numbers of the elements of a place
abbrev pub elements_of : Members → List ℕ
elements_of members = elements_by members.parts

-- the names of these entries
abbrev pub names_in : List (List ℕ × ℕ) → List (List ℕ)
names_in entries = map (λ e. e.0) entries

-- the index of the first entry with this name
abbrev pub number_in : List (List ℕ × ℕ) → List ℕ → Option ℕ
number_in entries name = lookup (λ n. bytes_eq name n) entries

-- the map of a list has exactly the members behind the first eight
abbrev pub IsListIndexed : List ℕ → MemberList → Type 0
IsListIndexed text members =
    (name : List ℕ) → number_of members.others name ≡ number_in (drop 8 (entries_listed text members)) name

-- the map of the members among the parts below a node, if it has some, has exactly those behind the first
-- eight
abbrev pub IsIndexedBy : List ℕ → Parts → Type 0
IsIndexedBy text parts.Nothing = ⊤
IsIndexedBy text (parts.Members members) = IsListIndexed text members.value
IsIndexedBy text (parts.Elements elements) = ⊤
IsIndexedBy text (parts.Both pair) = IsListIndexed text pair.value.members.value

-- the map has exactly the members behind the first eight
abbrev pub IsIndexed : List ℕ → Members → Type 0
IsIndexed text members = IsIndexedBy text members.parts

-- a node represents a node of the model; of its place it stores the number of steps
pub record RepresentsNode (text : List ℕ) (node : Node) (model : ModelNode) : Type 0 where
  pub shape : shape_of text node.content ≡ model.shape
  pub taken : node.taken ≡ model.taken
  pub steps : node.steps ≡ length model.place
  pub members : entries_of text node.members ≡ model.members
  pub indexed : IsIndexed text node.members
  pub elements : elements_of node.members ≡ model.elements
  pub span : node.span ≡ model.span

-- each node represents the node of the model at its index
pub record RepresentsNodes (text : List ℕ) (nodes : List Node) (models : List ModelNode) : Type 0 where
  pub len : length nodes ≡ length models
  pub each : (n : ℕ) (node : Node) (model : ModelNode) → slice_get nodes n ≡ Some node
      → slice_get models n ≡ Some model → RepresentsNode text node model

-- ---- places

-- the node at this index is at this place
abbrev pub StandsAt : List ModelNode → ℕ → Place → Type 0
StandsAt models n place = (s : ModelNode) × (slice_get models n ≡ Some s) × (s.place ≡ place)

-- the index of the child of a node at this step
abbrev pub below : ModelNode → Step → Option ℕ
below s (key name) = lookup (λ n. bytes_eq name n) s.members
below s (index i) = slice_get s.elements i

-- the place is a child of a node of the model, which lists it at this index
pub record IsBelow (models : List ModelNode) (number : ℕ) (place : Place) : Type 0 where
  pub upper : ModelNode
  pub above : ℕ
  pub step : Step
  pub stands : slice_get models above ≡ Some upper
  pub place_is : place ≡ at upper.place step
  pub listed : below upper step ≡ Some number

-- the nodes of a tree: the root comes first, no two nodes have the same place, and each node but the root is
-- listed as the child of its parent
pub record IsTree (models : List ModelNode) : Type 0 where
  pub root : StandsAt models 0 []
  pub unique : (i j : ℕ) (s t : ModelNode) → slice_get models i ≡ Some s → slice_get models j ≡ Some t
      → s.place ≡ t.place → i ≡ j
  pub down : (i j : ℕ) (s : ModelNode) (step : Step) → slice_get models i ≡ Some s → below s step ≡ Some j
      → StandsAt models j (at s.place step)
  pub up : (j : ℕ) (t : ModelNode) → slice_get models j ≡ Some t → (t.place ≡ []) ⊎ IsBelow models j t.place
