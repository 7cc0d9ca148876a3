-- The views at and below the parts of a new entry.
use Rattle.std.proofs.Common.{◌≡◌, ℕ, Bool, true, false, List, [], ◌∷◌, ◌++◌, Option, Some, None, is_some, refl, sym, ap, ◌∙◌, append-nil}
use Rattle.std.specs.Prelude.{option_and_then, find}
use Rattle.std.specs.Str.{bytes_eq}
use Rattle.edit_document.specs.declared.entry_part.Part.{Part}
use Rattle.edit_tree.specs.Assertions.{Step, key, index, Place, at, same_bytes}
use Rattle.edit_tree.specs.Tree.{View}
use Rattle.edit_tree.specs.NewItems.{NewValue, a_string, a_truth, a_list, NewItem, a_table}
use Rattle.edit_tree.specs.IntendedTrees.{new_view, item_view}
use Rattle.edit_tree.specs.DocumentViews.{tree_of}
use Rattle.edit_document.specs.Items.{viewed}
use Rattle.edit_document.specs.EntryParts.{entry_document, part_place, part_view, IsPart}
use Rattle.edit_document.proofs.EntryTrees.{entry_tree}
use Rattle.edit_document.proofs.ShownItems.{Pair, found}

-- two ways to compare texts
pub same_texts : (a b : List ℕ) → bytes_eq a b ≡ same_bytes a b
same_texts [] [] = refl
same_texts [] (c ∷ cs) = refl
same_texts (b ∷ bs) [] = refl
same_texts (b ∷ bs) (c ∷ cs) = rw (same_texts bs cs) refl

-- in the document of its entry a part shows what it shows by itself
pub part_tree : (item : NewItem) (part : Part) → IsPart item part → (q : Place)
    → tree_of (entry_document item) (part_place part ++ q) ≡ part_view item part q
part_tree item part h q = entry_tree item (part_place part ++ q) ∙ h.0 q

-- and that stands at its place
part_here : (item : NewItem) (part : Part) → IsPart item part
    → tree_of (entry_document item) (part_place part) ≡ part_view item part []
part_here item part h =
    ap (tree_of (entry_document item)) (sym (append-nil (part_place part))) ∙ part_tree item part h []

-- what stands at a part
pub part_said : (item : NewItem) (part : Part) → IsPart item part → (v : View)
    → part_view item part [] ≡ Some v → viewed (tree_of (entry_document item) (part_place part)) ≡ v
part_said item part h v e = ap viewed (part_here item part h ∙ e)

-- of what stands there
some_view : (o : Option View) → is_some o ≡ true → o ≡ Some (viewed o)
some_view (Some v) e = refl
some_view None e = absurd cc

-- something stands at a part
pub part_stands : (item : NewItem) (part : Part) → IsPart item part
    → tree_of (entry_document item) (part_place part)
    ≡ Some (viewed (tree_of (entry_document item) (part_place part)))
part_stands item part h =
    some_view (tree_of (entry_document item) (part_place part)) (ap is_some (part_here item part h) ∙ h.1)

-- nothing stands one step below a part that shows nothing there
pub part_absent : (item : NewItem) (part : Part) (s : Step) → IsPart item part
    → part_view item part (s ∷ []) ≡ None → tree_of (entry_document item) (at (part_place part) s) ≡ None
part_absent item part s h e = part_tree item part h (s ∷ []) ∙ e

-- ---- elements

-- nothing stands below an element
pub below_element : (x : NewValue) (i : ℕ) (t : Step) → new_view x (index i ∷ t ∷ []) ≡ None
below_element (a_string r) i t = refl
below_element (a_truth b) i t = refl
below_element (a_list ss) i t = refl

-- a value has no member
pub no_member : (x : NewValue) (n : List ℕ) → new_view x (key n ∷ []) ≡ None
no_member (a_string s) n = refl
no_member (a_truth b) n = refl
no_member (a_list ss) n = refl

-- ---- members

module _ (ms : List Pair) (n : List ℕ) (m : Pair) (is : find (λ x. same_bytes x.0 n) ms ≡ Some m) where
  -- the first of a name has that name
  pub member_name : m.0 ≡ n
  member_name = (found ms n m is).2

  -- and shows what the entry shows there
  pub member_shows : (by_dots : Bool) (q : Place)
      → item_view false (a_table by_dots ms) (key m.0 ∷ q) ≡ new_view m.1 q
  member_shows by_dots q =
      ap (λ (k : List ℕ). item_view false (a_table by_dots ms) (key k ∷ q)) member_name
      ∙ ap (λ (o : Option Pair). option_and_then (λ x. new_view x.1 q) o) is

-- a new value shows something
pub value_stands : (x : NewValue) → is_some (new_view x []) ≡ true
value_stands (a_string s) = refl
value_stands (a_truth b) = refl
value_stands (a_list ss) = refl
