-- A new entry as a document of its own, and its parts.
use Rattle.std.specs.Prelude.{◌≡◌, true, false, not, List, [], ◌∷◌, ◌++◌, map, length, Option, is_some, option_map, string_bytes}
use Rattle.std.specs.List.{filter_map, flat_map, range_with_len}
use Rattle.std.proofs.Props.{props}
use Rattle.edit_document.specs.declared.entry_part.Part.{Part}
use Rattle.edit_document.specs.declared.entry_part.Part.TheVariants.{Whole, Member, Element, MemberElement}
use Rattle.edit_document.specs.declared.entry_part.PartValue.{PartValue}
use Rattle.edit_document.specs.declared.entry_part.PartValue.TheVariants.{Text, Truth, List as Listed, Members}
use Rattle.edit_tree.specs.Assertions.{key, index, Place}
use Rattle.edit_tree.specs.Tree.{View, string, truth, static_array}
use Rattle.edit_tree.specs.DocumentViews.{DocumentViews}
use Rattle.edit_tree.specs.NewItems.{NewValue, a_list, NewItem, a_value, a_table}
use Rattle.edit_document.specs.NewItemViews.{new_value_view, new_pair_views, item_text}
use Rattle.edit_tree.specs.IntendedTrees.{Tree, new_view, view_of_members, item_view}

-- ---- an entry as a document

-- the places of a new value, relative to it; its own comes first
abbrev pub value_places : NewValue → List Place
value_places (a_list ss) = [] ∷ map (λ i. index i ∷ []) (range_with_len 0 (length ss))
value_places v = [] ∷ []

-- the places of a new entry, relative to it; its own comes first
abbrev pub entry_places : NewItem → List Place
entry_places (a_value v) = value_places v
entry_places (a_table by_dots ms) = [] ∷ flat_map (λ m. map (λ q. key m.0 ∷ q) (value_places m.1)) ms

-- a place with its view in a tree, if there is one
abbrev pub shown_place : Tree → Place → Option (Place × View)
shown_place tree q = option_map (λ v. (q, v)) (tree q)

-- the document that consists of the entry: its text, its places and their views
unfoldable pub entry_document : NewItem → DocumentViews
entry_document item = record {
  bytes = item_text item;
  nodes = filter_map (shown_place (item_view false item)) (entry_places item);
  pieces = item_text item ∷ [];
}

-- ---- parts

-- the place of a part, relative to the entry
abbrev pub part_place : Part → Place
part_place Whole = []
part_place (Member m) = key (string_bytes m.now.0) ∷ []
part_place (Element v i) = index i ∷ []
part_place (MemberElement m i) = key (string_bytes m.now.0) ∷ index i ∷ []

-- the tree of a part of a new entry; places are relative to the part
abbrev pub part_view : NewItem → Part → Tree
part_view item Whole q = item_view false item q
part_view item (Member m) q = new_view (new_value_view m.now.1) q
part_view item (Element v i) q = new_view (new_value_view v.now) (index i ∷ q)
part_view item (MemberElement m i) q = new_view (new_value_view m.now.1) (index i ∷ q)

-- it is a part of this entry: its place has an item, and the tree there is that of the part
abbrev pub IsPart : NewItem → Part → Type 0
IsPart item part =
    ((q : Place) → item_view false item (part_place part ++ q) ≡ part_view item part q)
    × (is_some (part_view item part []) ≡ true)

pub IsPart-prop : (item : NewItem) (part : Part) → IsProp (IsPart item part)
IsPart-prop item part = hlevel props

-- ---- values of parts

-- the view of a value of a part
abbrev pub part_value_view : PartValue → View
part_value_view (Text s) = string s.now
part_value_view (Truth b) = truth b
part_value_view (Listed l) = static_array (length l.now)
part_value_view (Members ms dotted) = view_of_members (not dotted) (new_pair_views ms.now)
