-- How a document is represented, and the view that contracts have of it.
use Rattle.std.specs.Prelude.{◌≡◌, ℕ, List, [], ◌∷◌, length, map, slice_get, Option, Some, None, if◌then◌else◌, string_bytes}
use Rattle.edit_syntax.specs.declared.span.Span.{Span}
use Rattle.edit_document.specs.declared.document.Document.TheInside.{Inside}
use Rattle.edit_syntax.specs.Characters.{quote, apostrophe}
use Rattle.edit_syntax.specs.Strings.{decoded_pieces, decoded_multi}
use Rattle.edit_syntax.specs.Numbers.{integer_text, float_text, datetime_text}
use Rattle.edit_syntax.specs.Grammar.{Value, basic, literal, multi_basic, multi_literal, boolean, integer, float, datetime, array, inline, value, Text}
use Rattle.edit_tree.specs.Assertions.{IsDocument, Place, same_place}
use Rattle.edit_tree.specs.Tree.{View, string, truth, whole, fractional, moment, view_at}
use Rattle.edit_syntax.specs.Reading.{◌>>=◌}
use Rattle.edit_syntax.specs.SyntaxTokens.{tokens_of_text}
use Rattle.edit_tree.specs.Pieces.{pieces_of, IsRange}
use Rattle.edit_tree.specs.DocumentViews.{DocumentViews, node_at}
use Rattle.edit_tree.specs.Nodes.{Shape, scalar, ModelNode, model_node_view, RepresentsNodes, IsTree}
use Rattle.edit_tree.specs.Nodes as shapes
use Rattle.edit_syntax.specs.FormOf.{form_of}
use Rattle.edit_tree.specs.Walk.{start, state_after}
use Rattle.edit_tree.specs.Written.{PlacedValue, values}

-- the shape of a value, without its members and elements
abbrev pub shape_of_value : Value → Shape
shape_of_value (basic ps) = scalar (string (decoded_pieces quote ps))
shape_of_value (literal text) = scalar (string text)
shape_of_value (multi_basic ps) = scalar (string (decoded_multi quote ps))
shape_of_value (multi_literal ps) = scalar (string (decoded_multi apostrophe ps))
shape_of_value (boolean b) = scalar (truth b)
shape_of_value (integer n) = scalar (whole (integer_text n []))
shape_of_value (float f) = scalar (fractional (float_text f []))
shape_of_value (datetime d) = scalar (moment (datetime_text d []))
shape_of_value (array g es) = shapes.listed
shape_of_value (inline g ms) = shapes.inline

-- ---- positions of values

-- the span of a value before this text
abbrev pub span_of : Value → List ℕ → Span
span_of v after = record { from = length (value v after); to = length after }

-- a place with the span of its value
abbrev pub Placed : Type 0
Placed = Place × Span

-- the place of a value with its span
abbrev pub placed : PlacedValue → Placed
placed w = (w.place, span_of w.value w.after)

-- the span of the value at a place
abbrev pub span_at : List Placed → Place → Option Span
span_at [] place = None
span_at (w ∷ ws) place = if same_place w.0 place then Some w.1 else span_at ws place

-- ---- documents

-- the nodes that the walk over the tokens of a text builds
abbrev pub model_nodes_of : List ℕ → Option (List ModelNode)
model_nodes_of bytes = form_of bytes >>= λ form. state_after bytes
    (tokens_of_text form) start >>= λ st. Some st.models

-- the places and views of these nodes; empty where there are none
abbrev pub node_views : Option (List ModelNode) → List (Place × View)
node_views None = []
node_views (Some models) = map model_node_view models

-- the view of a document from its text and the range that the last edit wrote
unfoldable pub document_view_by : List ℕ → ℕ × ℕ → DocumentViews
document_view_by bytes written =
    record { bytes = bytes; nodes = node_views (model_nodes_of bytes); pieces = pieces_of bytes written }

-- the view of a document from its fields
abbrev pub document_view_of : Inside → DocumentViews
document_view_of d = document_view_by (string_bytes d.text) d.written

-- the invariant of a document: its nodes are those of its text, with the tree of its syntax tree and the
-- spans of its values
pub record IsRead (d : Inside) : Type 0 where
  pub models : List ModelNode
  pub found : model_nodes_of (string_bytes d.text) ≡ Some models
  pub form : Text
  pub manifest : IsDocument (string_bytes d.text) form
  pub holds : RepresentsNodes (string_bytes d.text) d.nodes.items models
  pub written : IsRange (string_bytes d.text) d.written
  pub tree : IsTree models
  pub views : (place : Place) → node_at (map model_node_view models) place ≡ view_at form place
  pub spans : (n : ℕ) (s : ModelNode) → slice_get models n ≡ Some s
      → s.span ≡ span_at (map placed (values form)) s.place
