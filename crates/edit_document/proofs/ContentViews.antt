-- The view of a node, by its content.
use Rattle.std.proofs.Common.{◌≡◌, ℕ, List, length, sym, ap, ◌∙◌}
use Rattle.edit_tree.specs.declared.nodes.Content.{Content}
use Rattle.edit_tree.specs.declared.nodes.Node.{Node}
use Rattle.edit_tree.specs.DocumentViews.{DocumentViews}
use Rattle.edit_tree.specs.Tree.{View}
use Rattle.edit_tree.specs.Nodes.{ModelNode, elements_of, shape_of, view_of_shape}
use Rattle.edit_document.specs.Items.{node_view}
use Rattle.edit_document.specs.Compared.{kind_of, value_text}
use Rattle.edit_document.proofs.Views.{Found, names_of_node}

-- what a node with this content shows
abbrev pub content_view : DocumentViews → Node → Content → View
content_view d node x =
    view_of_shape (shape_of d.bytes x) (names_of_node d.bytes node) (length (elements_of node.members))

-- and of which kind that is
pub kind_shown : (d : DocumentViews) (nodes : List Node) (models : List ModelNode) (n : ℕ) (node : Node) (x : Content)
    → Found d nodes models n node → node.content ≡ x → kind_of (content_view d node x)
    ≡ kind_of (node_view d n)
kind_shown d nodes models n node x f is =
    sym (ap kind_of f.view ∙ ap (λ (y : Content). kind_of (content_view d node y)) is)

-- the text of the content is that of the view
pub value_text_shown : (d : DocumentViews) (nodes : List Node) (models : List ModelNode) (n : ℕ) (node : Node) (x : Content)
    → Found d nodes models n node → node.content ≡ x → value_text (content_view d node x)
    ≡ value_text (node_view d n)
value_text_shown d nodes models n node x f is =
    sym (ap value_text f.view ∙ ap (λ (y : Content). value_text (content_view d node y)) is)
