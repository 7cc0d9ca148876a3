-- The items of a choice, arranged for lookups by numbers and names.
use Rattle.std.specs.Prelude.{◌≡◌, ◌<◌, ◌==◌, ◌&&◌, ℕ, List, Bool, Option, Some, None, decimal, false, if◌then◌else◌, nat_le, unwrap_or}
use Rattle.std.specs.Borrow.{Bor}
use Rattle.std.specs.BTreeMap.{BTreeMap, get}
use Rattle.std.specs.BTreeSet.{BTreeSet}
use Rattle.std.specs.List.{list_any}
use Rattle.std.specs.Ordering.{nat_cmp}
use Rattle.std.specs.Str.{bytes_eq}
use Rattle.edit_report.specs.NameSets.{has_name}
use Rattle.edit_choice.specs.declared.item_lookup.ItemLookup.{ItemLookup}
use Rattle.edit_choice.specs.declared.items.RowItem.{RowItem}
use Rattle.edit_choice.specs.declared.items.RowItem.TheVariants as item

-- the last number that a map has for ranges which begin at this number; 0 where it has none
abbrev pub end_at : BTreeMap ℕ ℕ → ℕ → ℕ
end_at ends first = unwrap_or (get nat_cmp ends first) 0

-- the item is a range that begins at the first number, and ends at the second one or later
abbrev pub begins_at : ℕ → ℕ → RowItem → Bool
begins_at number end (item.Numbers first last) = (first == number) && nat_le end last
begins_at number end (item.Name name) = false

-- the item is a range that begins at the first number or before, and ends at the second one or later
abbrev pub begins_by : ℕ → ℕ → RowItem → Bool
begins_by number end (item.Numbers first last) = nat_le first number && nat_le end last
begins_by number end (item.Name name) = false

-- the item is this name
abbrev pub is_name_of : List ℕ → RowItem → Bool
is_name_of name (item.Numbers first last) = false
is_name_of name (item.Name chosen) = bytes_eq chosen.now name

-- a map has the greatest last number of the ranges that begin at each number
abbrev pub AreEnds : List RowItem → BTreeMap ℕ ℕ → Type 0
AreEnds items ends =
    (number end : ℕ) → 0 < end → nat_le end (end_at ends number) ≡ list_any (begins_at number end) items

-- a set has the names among items
abbrev pub AreNames : List RowItem → BTreeSet (Bor (List ℕ)) → Type 0
AreNames items names = (name : List ℕ) → has_name names name ≡ list_any (is_name_of name) items

-- a lookup has these items
pub record IsLookupOf (items : List RowItem) (lookup : ItemLookup) : Type 0 where
  pub ends : AreEnds items lookup.ends
  pub names : AreNames items lookup.names

-- the greatest last number of the ranges that begin at this number or before; 0 where there are none
abbrev pub IsReach : List RowItem → ℕ → ℕ → Type 0
IsReach items number reach =
    (end : ℕ) → 0 < end → nat_le end reach ≡ list_any (begins_by number end) items

-- the text of an item that chooses a row which is not there, by how many rows change and which names they
-- have
abbrev pub missing_by : ℕ → (List ℕ → Bool) → RowItem → Option (List ℕ)
missing_by count changes (item.Numbers first last) = if nat_le last count then None else Some (decimal last)
missing_by count changes (item.Name name) = if changes name.now then None else Some name.now
