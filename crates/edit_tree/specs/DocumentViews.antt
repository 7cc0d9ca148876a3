-- A document as contracts see it: its bytes and its tree.
use Rattle.std.specs.Prelude.{◌≡◌, ℕ, List, [], ◌∷◌, Option, Some, None, if◌then◌else◌}
use Rattle.edit_tree.specs.Assertions.{Place, same_place}
use Rattle.edit_syntax.specs.Grammar.{Text}
use Rattle.edit_tree.specs.Tree.{View, view_at}

-- a document: its bytes, the places with their views (the root first, then in the order of first
-- definitions), and the pieces of the bytes
pub record DocumentViews : Type 0 where
  pub bytes : List ℕ
  pub nodes : List (Place × View)
  pub pieces : List (List ℕ)

-- the view at a place in a list of places
abbrev pub node_at : List (Place × View) → Place → Option View
node_at [] place = None
node_at (n ∷ ns) place = if same_place n.0 place then Some n.1 else node_at ns place

-- the tree of a document
abbrev pub tree_of : DocumentViews → Place → Option View
tree_of d place = node_at d.nodes place

-- the tree of the document is that of this syntax tree
abbrev pub ShowsTree : DocumentViews → Text → Type 0
ShowsTree d form = (place : Place) → tree_of d place ≡ view_at form place
