-- How contracts see an `Item`: its document, its place and its view.
use Rattle.std.specs.Prelude.{◌≡◌, ℕ, List, drop, Option, Some, None, MatchOption}
use Rattle.edit_document.specs.declared.item.Item.{Item}
use Rattle.edit_document.specs.declared.item.Keys.{Keys}
use Rattle.edit_document.specs.declared.item.Source.{Source}
use Rattle.edit_document.specs.declared.item.Source.TheVariants.{Node, Part}
use Rattle.edit_document.specs.declared.entry_part.EntryPart.{EntryPart}
use Rattle.edit_document.specs.EntryParts.{entry_document, part_place}
use Rattle.edit_document.specs.NewItemViews.{new_item_view}
use Rattle.edit_tree.specs.Assertions.{Place}
use Rattle.edit_tree.specs.Tree.{View}
use Rattle.edit_tree.specs.DocumentViews.{DocumentViews, tree_of}
use Rattle.edit_document.specs.Items.{viewed, node_place, names_in}

-- ---- parts of new entries

-- the document that consists of the entry of a part
abbrev pub entry_of : EntryPart → DocumentViews
entry_of p = entry_document (new_item_view p.item.now)

-- the view of a part
abbrev pub part_shown : EntryPart → View
part_shown p = viewed (tree_of (entry_of p) (part_place p.part))

-- the part at a place, or `None` where there is none
abbrev pub FindsPart : DocumentViews → Place → Option EntryPart → Type 0
FindsPart d place r =
    MatchOption r (tree_of d place ≡ None) (λ p. (entry_of p ≡ d) × (part_place p.part ≡ place))

-- ---- items

-- the document of a source
abbrev pub source_document : Source → DocumentViews
source_document (Node n) = n.document.now
source_document (Part p) = entry_of p

-- the place of a source in its document
abbrev pub source_place : Source → Place
source_place (Node n) = node_place n.document.now n.number
source_place (Part p) = part_place p.part

-- the document of an item; for a part of a new entry, the document that consists of the entry
abbrev pub document_of : Item → DocumentViews
document_of i = source_document i.source

-- the place of an item in its document
abbrev pub place_of : Item → Place
place_of i = source_place i.source

-- the view of an item
abbrev pub view_of : Item → View
view_of i = viewed (tree_of (document_of i) (place_of i))

-- the item at a place, or `None` where there is none
abbrev pub Finds : DocumentViews → Place → Option Item → Type 0
Finds d place r =
    MatchOption r (tree_of d place ≡ None) (λ i. (document_of i ≡ d) × (place_of i ≡ place)
    × (tree_of d place ≡ Some (view_of i)))

-- the keys that an iterator has not returned yet
abbrev pub keys_left : Keys → List (List ℕ)
keys_left k = drop k.next (names_in (view_of k.item))
