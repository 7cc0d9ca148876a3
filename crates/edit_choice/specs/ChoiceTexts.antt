-- The texts of choices: `all`, `none`, or numbers, ranges and names, parted by commas and white space.
use Rattle.std.specs.Prelude.{◌≡◌, ◌≢◌, ◌≤◌, ◌<◌, ◌==◌, ◌⊎◌, ◌&&◌, ◌||◌, ◌+◌, ◌*◌, ◌-◌, ◌^◌, ◌++◌, ℕ, List, [], ◌∷◌, Bool, Option, Some, None, false, true, ⊤, codes, if◌then◌else◌}
use Rattle.std.specs.Char.{is_ascii_alphabetic, is_ascii_alphanumeric, is_ascii_digit}
use Rattle.std.specs.List.{AllZip, fold, list_all, list_any}
use Rattle.edit_choice.specs.declared.items.RowChoice.{RowChoice}
use Rattle.edit_choice.specs.declared.items.RowChoice.TheVariants as choice
use Rattle.edit_choice.specs.declared.items.RowItem.{RowItem}
use Rattle.edit_choice.specs.declared.items.RowItem.TheVariants as item

-- a comma, or white space of ASCII
abbrev pub is_separator : ℕ → Bool
is_separator b = list_any (λ s. s == b) (44 ∷ 32 ∷ 9 ∷ 13 ∷ 10 ∷ [])

-- the number of digits
abbrev pub value_of : List ℕ → ℕ
value_of digits = fold (λ n b. n * 10 + (b - 48)) 0 digits

-- a text of digits is the number of a row: at least 1, and of 64 bits
pub record IsRowNumber (text : List ℕ) (n : ℕ) : Type 0 where
  pub digits : list_all is_ascii_digit text ≡ true
  pub is : n ≡ value_of text
  pub first : 1 ≤ n
  pub last : n < 2 ^ 64

-- a text is the numbers of two rows in order, with `-` between
pub record IsRange (text : List ℕ) (first last : ℕ) : Type 0 where
  pub front : List ℕ
  pub back : List ℕ
  pub is : text ≡ front ++ 45 ∷ back
  pub first_is : IsRowNumber front first
  pub last_is : IsRowNumber back last
  pub order : first ≤ last

-- a text is the number of one row, or a range
abbrev pub AreNumbers : List ℕ → ℕ → ℕ → Type 0
AreNumbers text first last = (IsRowNumber text first × (last ≡ first)) ⊎ IsRange text first last

-- a byte that may stand in a crate's name: a letter, a digit, `-` or `_`
abbrev pub is_name_byte : ℕ → Bool
is_name_byte b = is_ascii_alphanumeric b || (b == 45 || b == 95)

-- a byte that may begin a crate's name in a choice: a letter or `_`
abbrev pub begins_name : ℕ → Bool
begins_name b = is_ascii_alphabetic b || b == 95

-- a text that may be the name of a crate in a choice
abbrev pub is_name : List ℕ → Bool
is_name [] = false
is_name (b ∷ text) = begins_name b && list_all is_name_byte text

-- a text is an item: the number of a row, two of them in order with `-` between, or a name
abbrev pub IsItem : List ℕ → RowItem → Type 0
IsItem text (item.Numbers first last) = AreNumbers text first last
IsItem text (item.Name chosen) = (is_name text ≡ true) × (chosen.now ≡ text)

-- the parts, with one more in front unless it is empty
abbrev pub with_part : List ℕ → List (List ℕ) → List (List ℕ)
with_part [] parts = parts
with_part (b ∷ part) parts = (b ∷ part) ∷ parts

-- the parts of a text between separators, those that are not empty: the rest of a part, and what follows
abbrev pub parts_from : List ℕ → List ℕ → List (List ℕ)
parts_from part [] = with_part part []
parts_from part (b ∷ text) =
    if is_separator b then with_part part (parts_from [] text) else parts_from (part ++ b ∷ []) text

-- these parts are `none`, and choose no row
abbrev pub AreNone : List (List ℕ) → List RowItem → Type 0
AreNone parts items = (parts ≡ codes "none" ∷ []) × (items ≡ [])

-- these parts are items, each part one, and no word that chooses all rows or none
abbrev pub AreItems : List (List ℕ) → List RowItem → Type 0
AreItems parts items =
    (parts ≢ codes "all" ∷ []) × (parts ≢ codes "none" ∷ []) × AllZip IsItem parts items

-- parts of a text are a choice: `all`, `none`, or items; no parts are no items
abbrev pub AreChoice : List (List ℕ) → RowChoice → Type 0
AreChoice parts choice.All = parts ≡ codes "all" ∷ []
AreChoice parts (choice.Items items) = AreNone parts items.items ⊎ AreItems parts items.items

-- a text is a choice: its parts between separators are
abbrev pub IsChoiceText : List ℕ → RowChoice → Type 0
IsChoiceText text chosen = AreChoice (parts_from [] text) chosen

-- no choice is answered only where the text is none
abbrev pub IsNoChoice : List ℕ → Option RowChoice → Type 0
IsNoChoice text None = (chosen : RowChoice) → IsChoiceText text chosen → ⊥
IsNoChoice text (Some chosen) = ⊤
