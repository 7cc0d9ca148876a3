-- Examples: the trees after an item is removed, and the trees of new entries.
use Rattle.std.proofs.Common.{◌≡◌, ℕ, true, false, List, [], ◌∷◌, Option, None, Some, refl}
use Rattle.std.specs.Prelude.{codes, option_and_then}
use Rattle.edit_syntax.specs.FormOf.{form_of}
use Rattle.edit_syntax.specs.Grammar.{Text}
use Rattle.edit_tree.specs.Assertions.{Place, key, index, assertions}
use Rattle.edit_tree.specs.Tree.{View, string, static_array, table_array, inline_table, table, view_in}
use Rattle.edit_tree.specs.NewItems.{a_string, a_truth, a_table}
use Rattle.edit_tree.specs.IntendedTrees.{assertions_left, place_after_removal, item_view}
use Rattle.edit_tree.proofs.OnTexts.{on_texts}

-- what the assertions that stay show at a place, once all that names another place or one below it is gone
abbrev left_of : List ℕ → Place → Place → Option View
left_of bytes gone place =
    option_and_then (λ (form : Text). view_in (assertions_left gone (assertions form)) place) (form_of bytes)

-- a header stays when its last pair goes
pub a_header_stays :
    left_of (codes "[d]\nx = 1\n") (key (codes "d") ∷ key (codes "x") ∷ []) (key (codes "d") ∷ [])
    ≡ Some (table [])
unfolding on_texts
a_header_stays = refl

-- a table made by dotted keys vanishes with its last pair
pub a_dotted_table_vanishes :
    left_of (codes "a.b.c = 1\na.d = 2\n") (key (codes "a") ∷ key (codes "b") ∷ key (codes "c") ∷ [])
    (key (codes "a") ∷ key (codes "b") ∷ [])
    ≡ None
unfolding on_texts
a_dotted_table_vanishes = refl

-- a table that one header alone goes through vanishes with what is below it
pub a_super_table_vanishes :
    left_of (codes "[a.b]\nx = 1\n[c]\n") (key (codes "a") ∷ key (codes "b") ∷ []) []
    ≡ Some (table (key (codes "c") ∷ []))
unfolding on_texts
a_super_table_vanishes = refl

-- an array of tables vanishes with its last element
pub an_array_of_tables_vanishes :
    left_of (codes "[[a]]\nx = 1\n") (key (codes "a") ∷ index 0 ∷ []) (key (codes "a") ∷ []) ≡ None
unfolding on_texts
an_array_of_tables_vanishes = refl

-- an array of tables with two elements has one left
pub an_array_of_tables_shrinks :
    left_of (codes "[[a]]\n[[a]]\n[a.b]\n") (key (codes "a") ∷ index 0 ∷ []) (key (codes "a") ∷ [])
    ≡ Some (table_array 1)
unfolding on_texts
an_array_of_tables_shrinks = refl

-- what stands below the later element
pub the_later_element :
    left_of (codes "[[a]]\n[[a]]\n[a.b]\n") (key (codes "a") ∷ index 0 ∷ []) (key (codes "a") ∷ index 1 ∷ [])
    ≡ Some (table (key (codes "b") ∷ []))
unfolding on_texts
the_later_element = refl

-- the later element moves up, with what is below it
pub moves_up : place_after_removal (key (codes "a") ∷ index 0 ∷ []) (key (codes "a") ∷ index 1 ∷ key (codes "b") ∷ [])
    ≡ key (codes "a") ∷ index 0 ∷ key (codes "b") ∷ []
moves_up = refl

-- the elements before it and other places stay where they are
pub stays_there : place_after_removal (key (codes "a") ∷ index 1 ∷ []) (key (codes "a") ∷ index 0 ∷ key (codes "b") ∷ [])
    ≡ key (codes "a") ∷ index 0 ∷ key (codes "b") ∷ []
stays_there = refl

-- an array that was written as a value stays when it is empty
pub an_array_stays : left_of (codes "a = [\"x\"]") (key (codes "a") ∷ index 0 ∷ []) (key (codes "a") ∷ [])
    ≡ Some (static_array 1)
unfolding on_texts
an_array_stays = refl

-- an inline table stays when it is empty
pub an_inline_table_stays :
    left_of (codes "a = { x = 1 }") (key (codes "a") ∷ key (codes "x") ∷ []) (key (codes "a") ∷ [])
    ≡ Some (inline_table [])
unfolding on_texts
an_inline_table_stays = refl

-- a dotted entry is a table
pub a_dotted_entry : item_view false (a_table true ((codes "workspace", a_truth true) ∷ [])) []
    ≡ Some (table (key (codes "workspace") ∷ []))
a_dotted_entry = refl

-- and in an inline table an inline one
pub an_inner_dotted_entry : item_view true (a_table true ((codes "workspace", a_truth true) ∷ [])) []
    ≡ Some (inline_table (key (codes "workspace") ∷ []))
an_inner_dotted_entry = refl

-- a member of an entry
pub an_entry_member :
    item_view false (a_table false ((codes "a", a_truth true) ∷ (codes "b", a_string (codes "c")) ∷ []))
    (key (codes "b") ∷ [])
    ≡ Some (string (codes "c"))
an_entry_member = refl
