-- Removing an entry from its table, and the table with it if that leaves it empty.
use Rattle.std.specs.Prelude.{◌≡◌, ◌⊎◌, ℕ, Bool, true, false, if◌then◌else◌, List, [], ◌∷◌, Option, Some, None, codes, string_bytes}
use Rattle.std.specs.List.{join_by}
use Rattle.edit_base.specs.declared.errors.Error.{Error}
use Rattle.edit_base.specs.declared.errors.Error.TheVariants.{NoTable, NoDependency, EditRefused}
use Rattle.edit_base.specs.Errors.{IsMemory}
use Rattle.edit_tree.specs.Assertions.{IsDocument, Place, at, key}
use Rattle.edit_tree.specs.DocumentViews.{DocumentViews, tree_of}
use Rattle.edit_tree.specs.Tree.{View, table, inline_table, view_at}
use Rattle.edit_syntax.specs.Grammar.{Text}
use Rattle.edit_update.specs.Removals.{IsTextWithout, HasFailedRemoval}
use Rattle.edit_manifest.specs.Tables.{Tree, is_table_like, place_of_keys}

-- ---- tables

-- the first of these keys, starting at a place, that does not lead to a table or an inline table
abbrev pub missing_below : Tree → Place → List (List ℕ) → Option (List ℕ)
missing_below t place [] = None
missing_below t place (name ∷ names) =
    if is_table_like (t (at place (key name))) then missing_below t (at place (key name)) names else Some name

-- the first of these keys, starting at the root, that does not lead to a table or an inline table
abbrev pub missing_table : Tree → List (List ℕ) → Option (List ℕ)
missing_table t path = missing_below t [] path

-- the place of an entry in the table of a path
abbrev pub entry_of : List (List ℕ) → List ℕ → Place
entry_of path name = at (place_of_keys path) (key name)

-- an empty table or inline table
abbrev pub is_empty_table : Option View → Bool
is_empty_table (Some (table [])) = true
is_empty_table (Some (inline_table [])) = true
is_empty_table _ = false

-- the place of a table if it is empty; the root never counts
abbrev pub empty_table_place : Tree → Place → List Place
empty_table_place t [] = []
empty_table_place t (s ∷ ss) = if is_empty_table (t (s ∷ ss)) then (s ∷ ss) ∷ [] else []

-- ---- entries

-- The entry existed and was removed, and then its table, if that left it empty.
pub record RemovesEntry (path : List (List ℕ)) (name : List ℕ) (old new : DocumentViews) : Type 0 where
  pub tables : missing_table (tree_of old) path ≡ None
  pub stood : tree_of old (entry_of path name) ≡ None → ⊥
  pub between : List ℕ
  pub entry : IsTextWithout (entry_of path name ∷ []) old.bytes between
  pub form : Text
  pub reads : IsDocument between form
  pub emptied : IsTextWithout (empty_table_place (view_at form) (place_of_keys path)) between new.bytes

-- ---- errors

-- the entry cannot be removed, or the table that is left empty cannot
pub data HasFailedEntryRemoval (path : List (List ℕ)) (name : List ℕ) (old : List ℕ) : Type 0 where
  entry_stays : HasFailedRemoval (entry_of path name ∷ []) old → HasFailedEntryRemoval path name old
  table_stays : (between : List ℕ) (form : Text) → IsTextWithout (entry_of path name ∷ []) old between
      → IsDocument between form
      → HasFailedRemoval (empty_table_place (view_at form) (place_of_keys path)) between
      → HasFailedEntryRemoval path name old

-- the error is `NoTable` with this key
abbrev pub NamesStep : List ℕ → Error → Type 0
NamesStep step (NoTable named) = string_bytes named ≡ step
NamesStep step other = ⊥

-- the error is `NoDependency` with this entry and the path of its table, joined by dots
abbrev pub NamesEntry : List (List ℕ) → List ℕ → Error → Type 0
NamesEntry path name (NoDependency named dotted) =
    (string_bytes named ≡ name) × (string_bytes dotted ≡ join_by (λ (step : List ℕ). step) (codes ".") path)
NamesEntry path name other = ⊥

-- the error of removing an entry, given the first key that leads to no table and the item of the entry:
-- there is no table, no entry, or an edit fails
abbrev pub IsRemovalError : List (List ℕ) → List ℕ → List ℕ → Option (List ℕ) → Option View → Error → Type 0
IsRemovalError path name old (Some step) entry e = NamesStep step e
IsRemovalError path name old None None e = NamesEntry path name e
IsRemovalError path name old None (Some view) e = (e ≡ EditRefused) × HasFailedEntryRemoval path name old

-- the errors: lack of memory, or one of these
abbrev pub IsEntryRemovalError : List (List ℕ) → List ℕ → DocumentViews → Error → Type 0
IsEntryRemovalError path name d e = IsMemory e
    ⊎ IsRemovalError path name d.bytes (missing_table (tree_of d) path) (tree_of d (entry_of path name)) e
