-- How contracts see the new values and entries of the code.
use Rattle.std.specs.Prelude.{ℕ, ◌≤◌, Bool, false, ⊤, List, [], length, map, string_bytes}
use Rattle.std.specs.declared.string.String.{String}
use Rattle.std.specs.declared.alloc.Global.{Global}
use Rattle.edit_document.specs.declared.new_item.NewValue.{NewValue as WrittenValue}
use Rattle.edit_document.specs.declared.new_item.NewValue.TheVariants.{Str, Bool as Truth, Strings}
use Rattle.edit_document.specs.declared.new_item.NewItem.{NewItem as WrittenItem}
use Rattle.edit_document.specs.declared.new_item.NewItem.TheVariants.{Value, Inline}
use Rattle.edit_tree.specs.NewItems.{NewValue, a_string, a_truth, a_list, NewItem, a_value, a_table, item_value}
use Rattle.edit_tree.specs.Assertions.{Place}
use Rattle.edit_syntax.specs.Grammar.{value}

-- the model of a `NewValue`
abbrev pub new_value_view : WrittenValue → NewValue
new_value_view (Str s) = a_string (string_bytes s)
new_value_view (Truth b) = a_truth b
new_value_view (Strings v) = a_list (map string_bytes v.items)

-- the model of a name with a new value
abbrev pub new_pair_view : String Global × WrittenValue → List ℕ × NewValue
new_pair_view m = (string_bytes m.0, new_value_view m.1)

-- the model of a list of names with new values
abbrev pub new_pair_views : List (String Global × WrittenValue) → List (List ℕ × NewValue)
new_pair_views members = map new_pair_view members

-- the model of a `NewItem`
abbrev pub new_item_view : WrittenItem → NewItem
new_item_view (Value v) = a_value (new_value_view v)
new_item_view (Inline members dotted) = a_table dotted (new_pair_views members.items)

-- the text of an entry written as a value
abbrev pub item_text : NewItem → List ℕ
item_text item = value (item_value item) []

-- the entry is written as a dotted key
abbrev pub is_dotted : NewItem → Bool
is_dotted (a_value v) = false
is_dotted (a_table by_dots ms) = by_dots

-- no place of the new value has more than 80 steps: the elements of a list are one step below it
abbrev pub HasRoom : Place → NewValue → Type 0
HasRoom place (a_list ss) = length place ≤ 79
HasRoom place v = ⊤
