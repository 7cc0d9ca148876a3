-- New values, entries and keys, and how they are written.
use Rattle.std.specs.Prelude.{◌≡◌, ℕ, Bool, true, false, if◌then◌else◌, ⊤, List, [], ◌∷◌, map, codes}
use Rattle.std.specs.List.{list_all}
use Rattle.edit_syntax.specs.Characters.{space, is_bare}
use Rattle.edit_syntax.specs.Strings.{◌·◌, Part, bare, basic_part, Key, key}
use Rattle.edit_syntax.specs.Grammar.{blank, Value, boolean, array, inline, value, Elements, no_elements, last_element, element, Members, no_members, last_member, member}
use Rattle.edit_tree.specs.Literals.{literal_piece, literal_of}

-- a new value: a string, a boolean, or a list of strings
pub data NewValue : Type 0 where
  a_string : List ℕ → NewValue
  a_truth : Bool → NewValue
  a_list : List (List ℕ) → NewValue

-- a new entry: a value, or a table of members, which is written as a dotted key or as an inline table
pub data NewItem : Type 0 where
  a_value : NewValue → NewItem
  a_table : Bool → List (List ℕ × NewValue) → NewItem

-- ---- values

-- string literals, with a comma and a space between them, as the elements of an array
abbrev pub literals : List (List ℕ) → Elements
literals [] = no_elements
literals (s ∷ []) = last_element (literal_of s) []
literals (s ∷ t ∷ ss) = element (literal_of s) [] (blank space ∷ []) (literals (t ∷ ss))

-- a new value as written: a string literal, a boolean or an array ("String", "Boolean", "Array")
abbrev pub new_value : NewValue → Value
new_value (a_string s) = literal_of s
new_value (a_truth b) = boolean b
new_value (a_list ss) = array [] (literals ss)

-- ---- keys and pairs

-- a part of a new key: bare where possible, else a basic string ("Keys")
abbrev pub new_part : List ℕ → Part
new_part [] = basic_part []
new_part (b ∷ bs) =
    if list_all is_bare (b ∷ bs) then bare (b ∷ bs) else basic_part (map literal_piece (b ∷ bs))

-- a new key of a single part
abbrev pub new_key : List ℕ → Key
new_key name = record { first = new_part name; others = [] }

-- a new pair: the key, an equals sign with a space on each side, and the value ("Key/Value Pair")
abbrev pub new_pair : List ℕ → NewValue → List ℕ → List ℕ
new_pair name v rest = key (new_key name) (codes " = " · value (new_value v) rest)

-- ---- entries

-- the new members of an inline table: `, ` between them and a space behind the last
abbrev pub new_members : List (List ℕ × NewValue) → Members
new_members [] = no_members
new_members (m ∷ []) = last_member (new_key m.0) (codes " ") (codes " ") (new_value m.1) (blank space ∷ [])
new_members (m ∷ n ∷ ms) =
    member (new_key m.0) (codes " ") (codes " ") (new_value m.1) [] (blank space ∷ []) (new_members (n ∷ ms))

-- a new inline table: `{ k = v, k = v }`, or `{}` without members ("Inline Table")
abbrev pub new_table : List (List ℕ × NewValue) → Value
new_table [] = inline [] no_members
new_table (m ∷ ms) = inline (blank space ∷ []) (new_members (m ∷ ms))

-- a new entry as a value: the value itself, or an inline table
abbrev pub item_value : NewItem → Value
item_value (a_value v) = new_value v
item_value (a_table by_dots ms) = new_table ms

-- what follows the key of a new entry: ` = ` and its value, or a dot and the only member of a dotted entry
abbrev pub new_entry : NewItem → List ℕ → List ℕ
new_entry (a_value v) rest = codes " = " · value (new_value v) rest
new_entry (a_table false ms) rest = codes " = " · value (new_table ms) rest
new_entry (a_table true ms) rest = codes ".workspace = true" · rest

-- the entry is not dotted, or has exactly the member `workspace = true`
abbrev pub IsEntry : NewItem → Type 0
IsEntry (a_value v) = ⊤
IsEntry (a_table false ms) = ⊤
IsEntry (a_table true ms) = ms ≡ (codes "workspace", a_truth true) ∷ []
