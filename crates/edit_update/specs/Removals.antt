-- Removing several items of a document one after the other, and when that fails.
use Rattle.std.specs.Prelude.{◌≡◌, ℕ, false, List, [], ◌∷◌, ◌++◌, Some, ⊤}
use Rattle.std.specs.List.{AllByRecursion}
use Rattle.edit_tree.specs.Assertions.{IsDocument, Place}
use Rattle.edit_tree.specs.EditBytes.{is_within}
use Rattle.edit_tree.specs.IntendedTrees.{Tree, Removed, RemoveFails, place_after_removal}
use Rattle.edit_tree.specs.RemovedBytes.{removed_text}
use Rattle.edit_tree.specs.Tree.{string, view_at}
use Rattle.edit_syntax.specs.Grammar.{Text}

-- The text after the items at these places were removed one after the other: each time a document with the
-- tree of the one before it without the item.
pub data IsTextWithout : List Place → List ℕ → List ℕ → Type 0 where
  none : (bytes : List ℕ) → IsTextWithout [] bytes bytes
  next : (place : Place) (more : List Place) (form left : Text) (old new : List ℕ) → IsDocument old form
      → IsDocument (removed_text place form) left → Removed form place (view_at form) (view_at left)
      → IsTextWithout more (removed_text place form) new → IsTextWithout (place ∷ more) old new

-- one of the items cannot be removed, after those before it were
pub record HasFailedRemoval (places : List Place) (old : List ℕ) : Type 0 where
  pub front : List Place
  pub place : Place
  pub back : List Place
  pub split : places ≡ front ++ place ∷ back
  pub bytes : List ℕ
  pub without : IsTextWithout front old bytes
  pub fails : RemoveFails place bytes

-- ---- strings

-- the item at the place is a string
abbrev pub HasString : Tree → Place → Type 0
HasString t place = (text : List ℕ) × (t place ≡ Some (string text))

-- the items at these places are strings
abbrev pub AreStrings : Tree → List Place → Type 0
AreStrings t places = AllByRecursion (HasString t) places

-- the second place neither contains the first nor is contained in it, and is unchanged after the first is
-- removed
abbrev pub IsUnmovedBy : Place → Place → Type 0
IsUnmovedBy gone place =
    (is_within gone place ≡ false) × (is_within place gone ≡ false) × (place_after_removal gone place ≡ place)

-- each of these places is unchanged after those before it are removed
abbrev pub AreInTurn : List Place → Type 0
AreInTurn [] = ⊤
AreInTurn (gone ∷ places) = AllByRecursion (IsUnmovedBy gone) places × AreInTurn places
