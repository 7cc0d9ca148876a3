-- A choice among rows, by their numbers and the names of their crates.
use Rattle.std.specs.Prelude.{◌≡◌, ◌&&◌, ℕ, List, Bool, false, nat_le, true, ⊤}
use Rattle.std.specs.List.{list_any}
use Rattle.std.specs.Str.{bytes_eq}
use Rattle.edit_choice.specs.declared.items.RowChoice.{RowChoice}
use Rattle.edit_choice.specs.declared.items.RowChoice.TheVariants as choice
use Rattle.edit_choice.specs.declared.items.RowItem.{RowItem}
use Rattle.edit_choice.specs.declared.items.RowItem.TheVariants as item

-- the item chooses the row with this number, of a crate with this name
abbrev pub is_chosen_by : RowItem → ℕ → List ℕ → Bool
is_chosen_by (item.Numbers first last) number name = nat_le first number && nat_le number last
is_chosen_by (item.Name chosen) number name = bytes_eq chosen.now name

-- the choices are both of all rows, or by the same items
abbrev pub IsSameChoice : RowChoice → RowChoice → Type 0
IsSameChoice choice.All choice.All = ⊤
IsSameChoice (choice.Items items) (choice.Items others) = others.items ≡ items.items
IsSameChoice _ _ = ⊥

-- what a choice chooses
abbrev pub is_chosen : RowChoice → ℕ → List ℕ → Bool
is_chosen choice.All number name = true
is_chosen (choice.Items items) number name = list_any (λ i. is_chosen_by i number name) items.items
