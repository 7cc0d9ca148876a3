-- When two documents are equal at a place and below it.
use Rattle.std.specs.Prelude.{Bool, ◌≡◌, ℕ, ◌<◌, ◌≤◌, true, false, nat_lt, if◌then◌else◌, List, ◌∷◌, [], ◌++◌, length, slice_get, Option, Some, None, MatchOption, ◌⊎◌, map, ⊤}
use Rattle.edit_tree.specs.Assertions.{Step, key, index, Place, at}
use Rattle.edit_tree.specs.Tree.{View, string, truth, whole, fractional, moment, static_array, table_array, inline_table, table}
use Rattle.edit_tree.specs.DocumentViews.{DocumentViews, tree_of}
use Rattle.edit_tree.specs.EditBytes.{is_within}
use Rattle.edit_tree.specs.NewItems.{NewValue, NewItem}
use Rattle.edit_tree.specs.IntendedTrees.{Tree, SameButOrder, new_view, view_of_members, member_view, item_view}
use Rattle.edit_document.specs.Items.{node_place, node_view, names_in, key_names}

-- the trees at and below two places are equal
abbrev pub SameBelow : DocumentViews → Place → DocumentViews → Place → Type 0
SameBelow d p e r = (q : Place) → tree_of d (p ++ q) ≡ tree_of e (r ++ q)

-- the tree at and below a place of a document
abbrev pub tree_below : DocumentViews → Place → Tree
tree_below d place q = tree_of d (place ++ q)

-- the trees at and below two places are equal except for the order of members
abbrev pub SameButOrderBelow : DocumentViews → Place → DocumentViews → Place → Type 0
SameButOrderBelow d p e r = (q : Place) → SameButOrder (tree_of d (p ++ q)) (tree_of e (r ++ q))

-- the two trees are equal except at and below the place
abbrev pub SameBeside : Place → Tree → Tree → Type 0
SameBeside place old new = (q : Place) → is_within place q ≡ false → new q ≡ old q

-- the tree at and below a place is that of a new value
abbrev pub ShowsValue : DocumentViews → Place → NewValue → Type 0
ShowsValue d place v = (q : Place) → tree_of d (place ++ q) ≡ new_view v q

-- the tree of a table of new values, inline or made by a dotted key; places are relative to it
abbrev pub members_tree : Bool → List (List ℕ × NewValue) → Tree
members_tree is_inline ms [] = Some (view_of_members is_inline ms)
members_tree is_inline ms (step ∷ q) = member_view ms step q

-- the tree at and below a place is that of a table of new values, inline or made by a dotted key
abbrev pub ShowsMembers : DocumentViews → Place → Bool → List (List ℕ × NewValue) → Type 0
ShowsMembers d place is_inline ms = (q : Place) → tree_of d (place ++ q) ≡ members_tree is_inline ms q

-- the tree at and below a place is that of a new entry, which is inside an inline table or not
abbrev pub ShowsItem : DocumentViews → Place → Bool → NewItem → Type 0
ShowsItem d place inside item = (q : Place) → tree_of d (place ++ q) ≡ item_view inside item q

-- the node at this index is at the place
abbrev pub IsNumber : DocumentViews → Place → ℕ → Type 0
IsNumber d place n = (n < length d.nodes) × (node_place d n ≡ place)

-- The result has the indices of the nodes at a place in two documents that are equal except at and below it;
-- it is `None` only where they differ elsewhere or the second has no item at the place.
abbrev pub FindsBeside : Place → DocumentViews → DocumentViews → Option (ℕ × ℕ) → Type 0
FindsBeside place d e r =
    MatchOption r (SameBeside place (tree_of d) (tree_of e) → tree_of e place ≡ None)
    (λ f. SameBeside place (tree_of d) (tree_of e) × IsNumber d place f.0 × IsNumber e place f.1)

-- ---- what the code compares

-- the kind of a view as a number, without texts, members and elements; the two booleans differ
abbrev pub kind_of : View → ℕ
kind_of (string said) = 0
kind_of (truth false) = 1
kind_of (truth true) = 2
kind_of (whole said) = 3
kind_of (fractional said) = 4
kind_of (moment said) = 5
kind_of (static_array n) = 6
kind_of (table_array n) = 7
kind_of (inline_table ms) = 8
kind_of (table ms) = 9

-- the text of a string, a number, a date or a time
abbrev pub value_text : View → Option (List ℕ)
value_text (string said) = Some said
value_text (whole said) = Some said
value_text (fractional said) = Some said
value_text (moment said) = Some said
value_text _ = None

-- the step to the element at an index, where there are so many elements
abbrev pub element_step : ℕ → ℕ → Option Step
element_step n i = if nat_lt i n then Some (index i) else None

-- the step to the child at an index, in the order of first definitions
abbrev pub nth_part : View → ℕ → Option Step
nth_part (static_array n) i = element_step n i
nth_part (table_array n) i = element_step n i
nth_part (inline_table ms) i = slice_get ms i
nth_part (table ms) i = slice_get ms i
nth_part _ i = None

-- each child at an index has the key at that index as its step, or the index itself
abbrev pub AreSteps : View → Type 0
AreSteps v =
    (i : ℕ) (step : Step) → nth_part v i ≡ Some step
    → ((name : List ℕ) × (slice_get (names_in v) i ≡ Some name) × (step ≡ key name))
    ⊎ ((slice_get (names_in v) i ≡ None) × (step ≡ index i))

-- the member names are in the order of the steps to them
abbrev pub AreNames : View → Type 0
AreNames v = (i : ℕ) (name : List ℕ) → slice_get (names_in v) i ≡ Some name → nth_part v i ≡ Some (key name)

-- no two members have the same name
abbrev pub AreApart : View → Type 0
AreApart v =
    (i j : ℕ) → (name : List ℕ) → slice_get (names_in v) i ≡ Some name
    → slice_get (names_in v) j ≡ Some name → i ≡ j

-- the children of a table are reached by keys
abbrev pub AreKeys : View → Type 0
AreKeys (inline_table ms) = ms ≡ map key (key_names ms)
AreKeys (table ms) = ms ≡ map key (key_names ms)
AreKeys v = ⊤

-- the children of a node are those in its view and no others; it has at most 80 steps
pub record IsWhole (d : DocumentViews) (number : ℕ) : Type 0 where
  pub parts : (step : Step) → ((i : ℕ) → nth_part (node_view d number) i ≡ Some step → ⊥)
      → tree_of d (at (node_place d number) step) ≡ None
  pub stands : (step : Step) (i : ℕ) → nth_part (node_view d number) i ≡ Some step
      → tree_of d (at (node_place d number) step) ≡ None → ⊥
  pub steps : AreSteps (node_view d number)
  pub names : AreNames (node_view d number)
  pub keys : AreKeys (node_view d number)
  pub short : length (node_place d number) ≤ 80

-- the trees at the child of this index and at the corresponding child of another node are equal
abbrev pub SamePart : DocumentViews → ℕ → DocumentViews → ℕ → ℕ → Type 0
SamePart d n e m i =
    (part : Step) → nth_part (node_view d n) i ≡ Some part
    → SameBelow d (at (node_place d n) part) e (at (node_place e m) part)

-- the trees at each child of a node, except the one at `step`, and at the corresponding child of another node
-- are equal
abbrev pub SamePartsBut : Step → DocumentViews → ℕ → DocumentViews → ℕ → Type 0
SamePartsBut step d n e m =
    (i : ℕ) → (part : Step) → nth_part (node_view d n) i ≡ Some part → (part ≡ step → ⊥)
    → SameBelow d (at (node_place d n) part) e (at (node_place e m) part)

-- each member name of a node is a member name of another node
abbrev pub HasNamesOf : DocumentViews → ℕ → DocumentViews → ℕ → Type 0
HasNamesOf d n e m =
    (i : ℕ) → (name : List ℕ) → slice_get (names_in (node_view d n)) i ≡ Some name
    → tree_of e (at (node_place e m) (key name)) ≡ None → ⊥

-- the index of the node of the child at an index
abbrev pub IsChildIndex : DocumentViews → ℕ → ℕ → Option ℕ → Type 0
IsChildIndex d number i r =
    MatchOption r (nth_part (node_view d number) i ≡ None)
    (λ n. (step : Step) × (nth_part (node_view d number) i ≡ Some step) × (n < length d.nodes)
    × (node_place d n ≡ at (node_place d number) step))
