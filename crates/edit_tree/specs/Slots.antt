-- Elements of arrays and members of inline tables treated alike, and what is left when some are removed.
use Rattle.std.specs.Prelude.{◌≡◌, ℕ, suc, ◌≤◌, Bool, true, false, if◌then◌else◌, List, [], ◌∷◌, map, ⊤}
use Rattle.edit_syntax.specs.Characters.{comma, equals, left_bracket, right_bracket, left_brace, right_brace, is_blank, All}
use Rattle.edit_syntax.specs.Strings.{◌·◌, Key, key, IsKey}
use Rattle.edit_syntax.specs.Grammar.{Between, gap, IsGap, Value, value, IsValue, array, inline, Elements, no_elements, last_element, element, Members, no_members, last_member, member}
use Rattle.edit_syntax.specs.Depth.{depth}
use Rattle.edit_tree.specs.Assertions.{Place, key as name_step, index, same_place, names}
use Rattle.edit_tree.specs.EditBytes.{is_within}
use Rattle.edit_tree.specs.RemovedBytes.{Left, left_with_comma, left_without_comma, behind_comma, without_member}

-- ---- items between commas

-- an item: an element, or a member with the white space around its equals sign
pub data Slot : Type 0 where
  of_value : Value → Slot
  of_pair : Key → List ℕ → List ℕ → Value → Slot

-- the text of an item, before the text that follows
abbrev pub slot : Slot → List ℕ → List ℕ
slot (of_value v) rest = value v rest
slot (of_pair k a b v) rest = key k (a · equals ∷ (b · value v rest))

-- the items up to the closing bracket or brace, with the gaps after them and after their commas
pub data Slots : Type 0 where
  no_slots : Slots
  last_slot : Slot → List Between → Slots
  more_slots : Slot → List Between → List Between → Slots → Slots

-- the text of items, before the text that follows
abbrev pub slots : Slots → List ℕ → List ℕ
slots no_slots rest = rest
slots (last_slot s c) rest = slot s (gap c rest)
slots (more_slots s c d ss) rest = slot s (gap c (comma ∷ gap d (slots ss rest)))

-- an item is well formed, as a member of an inline table or an element of an array; its value is at most 80
-- deep
abbrev pub IsSlot : Bool → Slot → Type 0
IsSlot is_table (of_value v) = (is_table ≡ false) × IsValue v × (depth v ≤ 80)
IsSlot is_table (of_pair k a b v) =
    (is_table ≡ true) × IsKey k × All is_blank a × All is_blank b × IsValue v × (depth v ≤ 80)

-- each item is well formed
abbrev pub AreSlots : Bool → Slots → Type 0
AreSlots is_table no_slots = ⊤
AreSlots is_table (last_slot s c) = IsSlot is_table s × IsGap c
AreSlots is_table (more_slots s c d ss) = IsSlot is_table s × IsGap c × IsGap d × AreSlots is_table ss

-- the closing brace or bracket
abbrev pub closing : Bool → ℕ
closing is_table = if is_table then right_brace else right_bracket

-- the opening brace or bracket
abbrev pub opening : Bool → ℕ
opening is_table = if is_table then left_brace else left_bracket

-- the text of an array or an inline table with these items
abbrev pub enclosed : Bool → List Between → Slots → List ℕ
enclosed is_table g ss = opening is_table ∷ gap g (slots ss (closing is_table ∷ []))

-- the elements of an array
abbrev pub of_elements : Elements → Slots
of_elements no_elements = no_slots
of_elements (last_element v g) = last_slot (of_value v) g
of_elements (element v g h es) = more_slots (of_value v) g h (of_elements es)

-- the members of an inline table
abbrev pub of_members : Members → Slots
of_members no_members = no_slots
of_members (last_member k a b v c) = last_slot (of_pair k a b v) c
of_members (member k a b v c d ms) = more_slots (of_pair k a b v) c d (of_members ms)

-- ---- removal

-- The item at this index is removed: it is the element at the place, or a member that names the place or one
-- below it. The place is relative to the array or inline table.
abbrev pub is_item_removed : Place → ℕ → Slot → Bool
is_item_removed below i (of_value v) = same_place (index i ∷ []) below
is_item_removed below i (of_pair k a b v) = is_within below (map name_step (names k))

-- the items that are left, from this index on
abbrev pub slots_left : Place → ℕ → Slots → List ℕ → Left
slots_left below i no_slots rest = left_with_comma rest
slots_left below i (last_slot s c) rest =
    if is_item_removed below i s then left_without_comma (gap c rest)
    else left_with_comma (slot s (gap c rest))
slots_left below i (more_slots s c d ss) rest =
    let l = slots_left below (suc i) ss rest in
    if is_item_removed below i s then without_member (gap c) (gap d) l
    else left_with_comma (slot s (gap c (behind_comma (gap d) l)))

-- the text of an array or an inline table without what is removed
abbrev pub enclosed_left : Bool → Place → List Between → Slots → List ℕ
enclosed_left is_table below g ss =
    opening is_table ∷ gap g (slots_left below 0 ss (closing is_table ∷ [])).rest

-- an array or an inline table with these items is well formed and has this text
pub record IsEnclosed (is_table : Bool) (g : List Between) (ss : Slots) (text : List ℕ) : Type 0 where
  pub between : IsGap g
  pub slots_valid : AreSlots is_table ss
  pub spelled : text ≡ enclosed is_table g ss

-- ---- values

-- the value is an array or an inline table
abbrev pub IsContainer : Value → Type 0
IsContainer (array g es) = ⊤
IsContainer (inline g ms) = ⊤
IsContainer _ = ⊥
