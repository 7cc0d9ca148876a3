-- The intended trees of edits, and when an edit fails because its text has another tree.
use Rattle.std.specs.Prelude.{◌≡◌, ℕ, suc, ◌-◌, Bool, true, false, not, nat_lt, ◌&&◌, ◌||◌, if◌then◌else◌, List, [], ◌∷◌, ◌++◌, map, length, Option, Some, None, option_map, option_and_then, slice_get, find}
use Rattle.std.specs.List.{list_any, filter}
use Rattle.edit_syntax.specs.Grammar.{Text}
use Rattle.edit_tree.specs.Assertions.{Step, key, index, Place, at, same_bytes, same_step, same_place, Assertion, assertions, IsDocument}
use Rattle.edit_tree.specs.Tree.{View, string, truth, static_array, table_array, inline_table, table, view_in, view_at}
use Rattle.edit_tree.specs.NewItems.{NewValue, a_string, a_truth, a_list, NewItem, a_value, a_table}
use Rattle.edit_tree.specs.EditBytes.{is_within, replaced_text, inserted_text}
use Rattle.edit_tree.specs.RemovedBytes.{removed_text}

-- a tree: the view of the item at each place, if there is one
abbrev pub Tree : Type 0
Tree = Place → Option View

-- ---- new values and entries

-- the tree of a new value; places are relative to it
abbrev pub new_view : NewValue → Tree
new_view (a_string s) [] = Some (string s)
new_view (a_truth b) [] = Some (truth b)
new_view (a_list ss) [] = Some (static_array (length ss))
new_view (a_list ss) (index i ∷ []) = option_map string (slice_get ss i)
new_view _ _ = None

-- the view of a table with these members: inline, or made by a dotted key outside inline tables
abbrev pub view_of_members : Bool → List (List ℕ × NewValue) → View
view_of_members is_inline ms =
    let steps = map (λ m. key m.0) ms in
    if is_inline then inline_table steps else table steps

-- the trees of the members of a new entry; places are relative to the member that a step leads to
abbrev pub member_view : List (List ℕ × NewValue) → Step → Tree
member_view ms (key name) q = option_and_then (λ m. new_view m.1 q) (find (λ m. same_bytes m.0 name) ms)
member_view ms (index i) q = None

-- the tree of a new entry; places are relative to it; a dotted entry inside an inline table is an inline
-- table
abbrev pub item_view : Bool → NewItem → Tree
item_view inside (a_value v) q = new_view v q
item_view inside (a_table by_dots ms) [] = Some (view_of_members (inside || not by_dots) ms)
item_view inside (a_table by_dots ms) (step ∷ q) = member_view ms step q

-- ---- set_value and replace_entry

-- the new tree is the old one with another tree at and below a place
pub record Only (place : Place) (shows old new : Tree) : Type 0 where
  pub there : (q : Place) → new (place ++ q) ≡ shows q
  pub elsewhere : (q : Place) → is_within place q ≡ false → new q ≡ old q

-- a place without its last step: its parent
abbrev pub above : Place → Place
above [] = []
above (s ∷ []) = []
above (s ∷ t ∷ ts) = s ∷ above (t ∷ ts)

-- the view is that of an inline table
abbrev pub is_inline_table : Option View → Bool
is_inline_table (Some (inline_table ms)) = true
is_inline_table _ = false

-- the new tree is the old one with another value at the place
abbrev pub HasSet : Place → NewValue → Tree → Tree → Type 0
HasSet place v old new = Only place (new_view v) old new

-- the new tree is the old one with another entry at the place
abbrev pub HasReplaced : Place → NewItem → Tree → Tree → Type 0
HasReplaced place item old new = Only place (item_view (is_inline_table (old (above place))) item) old new

-- ---- insert

-- the table has one more member, and the others in their order
pub data Grown (s : Step) : Option View → Option View → Type 0 where
  in_table : (front back : List Step)
      → Grown s (Some (table (front ++ back))) (Some (table (front ++ s ∷ back)))
  in_inline_table : (front back : List Step)
      → Grown s (Some (inline_table (front ++ back))) (Some (inline_table (front ++ s ∷ back)))

-- the new tree is the old one with a member of this name and value inserted into the table at the place
pub record Inserted (place : Place) (name : List ℕ) (v : NewValue) (old new : Tree) : Type 0 where
  pub there : (q : Place) → new (at place (key name) ++ q) ≡ new_view v q
  pub grown : Grown (key name) (old place) (new place)
  pub elsewhere : (q : Place)
      → is_within (at place (key name)) q ≡ false → same_place q place ≡ false → new q ≡ old q

-- ---- remove

-- the assertions that stay when all that names a place or one below it is removed
abbrev pub assertions_left : Place → List Assertion → List Assertion
assertions_left gone made = filter (λ a. not (is_within gone a.by)) made

-- Nothing defines `place` any more when all that names `gone` or a place below it is removed.
abbrev pub Vanishes : Text → Place → Place → Type 0
Vanishes form gone place = view_in (assertions_left gone (assertions form)) place ≡ None

-- where a place is after another one is removed: later elements of the same array move down by one index
abbrev pub place_after_removal : Place → Place → Place
place_after_removal [] q = q
place_after_removal (s ∷ gone) [] = []
place_after_removal (index i ∷ []) (index j ∷ q) = index (if nat_lt i j then j - 1 else j) ∷ q
place_after_removal (s ∷ gone) (t ∷ q) = t ∷ (if same_step s t then place_after_removal gone q else q)

-- the two lists have the same members, in any order
pub record SameMembers (ms ns : List Step) : Type 0 where
  pub count : length ms ≡ length ns
  pub members : (s : Step) → list_any (same_step s) ms ≡ list_any (same_step s) ns

-- the two views are equal except for the order of members
pub data SameButOrder : Option View → Option View → Type 0 where
  same : (v : Option View) → SameButOrder v v
  tables : (ms ns : List Step) → SameMembers ms ns
      → SameButOrder (Some (table ms)) (Some (table ns))
  inline_tables : (ms ns : List Step) → SameMembers ms ns
      → SameButOrder (Some (inline_table ms)) (Some (inline_table ns))

-- the first list of steps has the members of the second and this one more
pub record LosesStep (t : Step) (ms ns : List Step) : Type 0 where
  pub count : length ms ≡ suc (length ns)
  pub members : (s : Step) → list_any (same_step s) ns ≡ (list_any (same_step s) ms && not (same_step t s))

-- the second view is the first without a child: a table has one member fewer, an array one element fewer
pub data Loses (t : Step) : Option View → Option View → Type 0 where
  from_table : (ms ns : List Step) → LosesStep t ms ns → Loses t (Some (table ms)) (Some (table ns))
  from_inline_table : (ms ns : List Step) → LosesStep t ms ns
      → Loses t (Some (inline_table ms)) (Some (inline_table ns))
  from_array : (n : ℕ) → Loses t (Some (static_array (suc n))) (Some (static_array n))
  from_table_array : (n : ℕ) → Loses t (Some (table_array (suc n))) (Some (table_array n))

-- the last step of the place is a key
abbrev pub is_member : Place → Bool
is_member [] = false
is_member (key n ∷ []) = true
is_member (index i ∷ []) = false
is_member (s ∷ t ∷ ts) = is_member (t ∷ ts)

-- The new tree is the old one without the item at a place, and without the tables and arrays around it that
-- vanish.
pub record Removed (form : Text) (gone : Place) (old new : Tree) : Type 0 where
  -- no item is left at or below the place of a removed member
  pub nothing_there : is_member gone ≡ true → (q : Place) → is_within gone q ≡ true → new q ≡ None
  -- what is neither in the item nor around it is unchanged at its new place, except for the order of members
  pub beside : (q : Place) → is_within gone q ≡ false → is_within q gone ≡ false
      → SameButOrder (old q) (new (place_after_removal gone q))
  -- a table or array around the item is unchanged where its child on the way to the item stays
  pub stays : (q : Place) (t : Step) (r : Place) → gone ≡ q ++ t ∷ r → (Vanishes form gone (at q t) → ⊥)
      → SameButOrder (old q) (new q)
  -- the innermost table or array that stays has lost its child on the way to the item
  pub loses : (q : Place) (t : Step) (r : Place) → gone ≡ q ++ t ∷ r → (Vanishes form gone q → ⊥)
      → Vanishes form gone (at q t) → Loses t (old q) (new q)
  -- tables and arrays that vanish are no longer in the tree
  pub vanishes : (q : Place) (t : Step) (r : Place) → gone ≡ q ++ t ∷ r → Vanishes form gone q
      → new q ≡ None

-- ---- when an edit fails

-- the bytes are no document, or have another tree than the intended one
abbrev pub HasOtherTree : List ℕ → (Tree → Type 0) → Type 0
HasOtherTree bytes IntendedTrees = (form : Text) → IsDocument bytes form → IntendedTrees (view_at form) → ⊥

-- the text with the entry replaced is no document, or has another tree than the intended one
abbrev pub ReplaceFails : Place → NewItem → List ℕ → Type 0
ReplaceFails place item old =
    (form : Text) → IsDocument old form
    → HasOtherTree (replaced_text place item form) (HasReplaced place item (view_at form))

-- the text with the member inserted is no document, or has another tree than the intended one
abbrev pub InsertFails : Place → List ℕ → NewValue → List ℕ → Type 0
InsertFails place name v old =
    (form : Text) → IsDocument old form
    → HasOtherTree (inserted_text place name v form) (Inserted place name v (view_at form))

-- the text without the item is no document, or has another tree than the intended one
abbrev pub RemoveFails : Place → List ℕ → Type 0
RemoveFails gone old =
    (form : Text) → IsDocument old form
    → HasOtherTree (removed_text gone form) (Removed form gone (view_at form))
