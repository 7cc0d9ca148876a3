-- Rows of which only the chosen ones change.
use Rattle.std.specs.Prelude.{◌≡◌, ◌&&◌, ℕ, suc, List, [], ◌∷◌, Bool, Option, Some, None, decimal, filter, false, if◌then◌else◌, is_some, length, nat_le, not, option_map, string_bytes, true, ⊤}
use Rattle.std.specs.List.{filter_map, list_any}
use Rattle.std.specs.Str.{bytes_eq}
use Rattle.edit_report.specs.declared.row.Row.{Row}
use Rattle.edit_choice.specs.Choices.{is_chosen}
use Rattle.edit_choice.specs.declared.items.RowChoice.{RowChoice}
use Rattle.edit_choice.specs.declared.items.RowChoice.TheVariants as choice
use Rattle.edit_choice.specs.declared.items.RowItem.{RowItem}
use Rattle.edit_choice.specs.declared.items.RowItem.TheVariants as item

-- the row as it was, but for its change: its old requirement stays
pub record IsUnchanged (row after : Row) : Type 0 where
  pub new : option_map string_bytes after.new ≡ option_map string_bytes row.old
  pub change : after.change ≡ None
  pub input : after.input ≡ row.input
  pub name : after.name ≡ row.name
  pub place : after.place ≡ row.place
  pub rename : after.rename ≡ row.rename
  pub old : after.old ≡ row.old
  pub compatible : after.compatible ≡ row.compatible
  pub latest : after.latest ≡ row.latest
  pub reason : after.reason ≡ row.reason

-- a row whose change is taken back, or that is as it was (own)
abbrev pub IsTaken : Bool → Row → Row → Type 0
IsTaken true row after = IsUnchanged row after
IsTaken false row after = after ≡ row

-- the rows from the one on with this number less one: a row without a change stays, one with a change is
-- numbered, and stays if it is chosen, else its change is taken back
abbrev pub AreChosenFrom : RowChoice → ℕ → List Row → List Row → Type 0
AreChosenFrom choice n [] [] = ⊤
AreChosenFrom choice n (row ∷ rows) (a ∷ after) =
    IsTaken (is_some row.change && not (is_chosen choice (suc n) (string_bytes row.name))) row a
    × AreChosenFrom choice (if is_some row.change then suc n else n) rows after
AreChosenFrom choice n rows after = ⊥

-- of the rows only the chosen ones change, numbered from 1
abbrev pub AreChosen : RowChoice → List Row → List Row → Type 0
AreChosen choice rows after = AreChosenFrom choice 0 rows after

-- how many rows change
abbrev pub count_changes : List Row → ℕ
count_changes rows = length (filter (λ row. is_some row.change) rows)

-- a row changes, and is one of this crate
abbrev pub is_change_of : List ℕ → Row → Bool
is_change_of name row = is_some row.change && bytes_eq (string_bytes row.name) name

-- a row of this crate changes
abbrev pub has_change : List ℕ → List Row → Bool
has_change name rows = list_any (is_change_of name) rows

-- the text of an item that chooses a row which is not there
abbrev pub missing_text : List Row → RowItem → Option (List ℕ)
missing_text rows (item.Numbers first last) =
    if nat_le last (count_changes rows) then None else Some (decimal last)
missing_text rows (item.Name name) = if has_change name.now rows then None else Some name.now

-- the texts of the items that choose a row which is not there, in order
abbrev pub missing_texts : RowChoice → List Row → List (List ℕ)
missing_texts choice.All rows = []
missing_texts (choice.Items items) rows = filter_map (missing_text rows) items.items
