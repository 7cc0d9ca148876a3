-- How contracts see a table of a policy (own).
use Rattle.std.specs.Prelude.{◌≡◌, ℕ, List, Option}
use Rattle.edit_document.specs.ItemViews.{document_of, place_of}
use Rattle.edit_tree.specs.Assertions.{Place}
use Rattle.edit_tree.specs.DocumentViews.{DocumentViews, tree_of}
use Rattle.edit_tree.specs.Tree.{View}
use Rattle.edit_policy.specs.Policies.{member}
use Rattle.edit_policy.specs.Values.{Tree}
use Rattle.edit_policy.specs.declared.table.PolicyTable.{PolicyTable}

-- the tree of the document that a table is in (own)
abbrev pub tree_in : PolicyTable → Tree
tree_in table = tree_of (document_of table.item)

-- the place of a table (own)
abbrev pub place_in : PolicyTable → Place
place_in table = place_of table.item

-- the item under a key of a table (own)
abbrev pub item_at : PolicyTable → List ℕ → Option View
item_at table name = tree_in table (member (place_in table) name)

-- a table is the one at a place of a document (own)
pub record IsTableAt (d : DocumentViews) (place : Place) (table : PolicyTable) : Type 0 where
  pub document : document_of table.item ≡ d
  pub at : place_in table ≡ place
