-- A removed entry, and its table if that was left empty.
use Rattle.std.proofs.Common.{◌≡◌, ◌==◌, length, ℕ, true, false, cond, List, [], ◌∷◌, Option, None, Some, refl, sym, ap, ◌∙◌, ◌⊎◌, inl, inr, subst, true≢false}
use Rattle.std.specs.Prelude.{is_some}
use Rattle.edit_base.specs.declared.errors.Error.{Error}
use Rattle.edit_base.specs.declared.errors.Error.TheVariants.{EditRefused}
use Rattle.edit_base.specs.Errors.{IsMemory}
use Rattle.edit_syntax.specs.Grammar.{Text}
use Rattle.edit_tree.specs.Assertions.{Place, key, index, at, IsDocument}
use Rattle.edit_document.specs.declared.item.Item.{Item}
use Rattle.edit_tree.specs.declared.place.Step.{Step as WrittenStep}
use Rattle.edit_document.specs.ItemViews.{Finds, view_of}
use Rattle.edit_document.specs.Items.{place_view}
use Rattle.edit_tree.specs.IntendedTrees.{Tree, Removed, RemoveFails, is_member}
use Rattle.edit_tree.specs.RemovedBytes.{removed_text}
use Rattle.edit_tree.specs.DocumentViews.{DocumentViews, ShowsTree, tree_of}
use Rattle.edit_tree.specs.Tree.{View, view_at}
use Rattle.edit_tree.proofs.HeadedPlaces.{inside_more, inside_self}
use Rattle.edit_update.specs.Removals.{IsTextWithout, HasFailedRemoval}
use Rattle.edit_update.specs.RemovedEntries.{RemovesEntry, HasFailedEntryRemoval, entry_stays, table_stays, IsRemovalError, IsEntryRemovalError, empty_table_place, entry_of, is_empty_table, missing_table}
use Rattle.edit_manifest.specs.Tables.{place_of_keys}
use Rattle.edit_update.proofs.MissingTables.{more_than_none}
use Rattle.edit_update.proofs.RemovalSteps.{first_stays, shown_removed, without_one}

-- ---- places

pub member_at : (p : Place) (n : List ℕ) → is_member (at p (key n)) ≡ true
member_at [] n = refl
member_at (key m ∷ []) n = refl
member_at (index i ∷ []) n = refl
member_at (key m ∷ s ∷ p) n = member_at (s ∷ p) n
member_at (index i ∷ s ∷ p) n = member_at (s ∷ p) n

member_keyed : (n : List ℕ) (ns : List (List ℕ)) → is_member (place_of_keys (n ∷ ns)) ≡ true
member_keyed n [] = refl
member_keyed n (m ∷ ns) = member_keyed m ns

-- a key that was removed is not there
pub member_gone : (p : Place) (n : List ℕ) (form : Text) (old new : Tree)
    → Removed form (at p (key n)) old new → new (at p (key n)) ≡ None
member_gone p n form old new removed = removed.nothing_there (member_at p n) (at p (key n))
    (inside_self (at p (key n)))

-- a key of a table that was removed is not there
pub inner_gone : (path : List (List ℕ)) (p : Place) (n : List ℕ) (form : Text) (old new : Tree)
    → p ≡ place_of_keys path → (p ≡ [] → ⊥) → Removed form p old new → new (at p (key n)) ≡ None
inner_gone [] p n form old new e inner removed = absurd (inner e)
inner_gone (m ∷ ms) p n form old new e inner removed =
    removed.nothing_there (ap is_member e ∙ member_keyed m ms) (at p (key n))
    (inside_more p p (key n ∷ []) (inside_self p))

-- whether a place is the root depends on its steps
pub root_is : (steps : List WrittenStep) → (length steps == 0) ≡ true → place_view steps ≡ []
root_is [] e = refl
root_is (s ∷ ss) e = absurd (true≢false (sym e ∙ more_than_none (length ss)))

pub root_not : (steps : List WrittenStep) → (length steps == 0) ≡ false → place_view steps ≡ [] → ⊥
root_not [] e f = true≢false e
root_not (s ∷ ss) e f = cc

-- the item that was found is at its place
pub found_stands : (d : DocumentViews) (p : Place) (r : Option Item) → Finds d p r → is_some r ≡ true
    → tree_of d p ≡ None → ⊥
found_stands d p None found e absent = true≢false (sym e)
found_stands d p (Some i) found e absent = never (sym absent ∙ found.2)
  where
    never : None ≡ Some (view_of i) → ⊥
    never is = cc

-- ---- empty tables

-- whether a table is empty depends on its item
pub bare_same : (t u : Tree) (p : Place) → t p ≡ u p → empty_table_place t p ≡ empty_table_place u p
bare_same t u [] e = refl
bare_same t u (s ∷ ss) e = ap (λ o. cond (is_empty_table o) ((s ∷ ss) ∷ []) []) e

pub bare_root : (t : Tree) (p : Place) → p ≡ [] → empty_table_place t p ≡ []
bare_root t [] e = refl
bare_root t (s ∷ ss) e = absurd cc

pub bare_none : (t : Tree) (p : Place) → is_empty_table (t p) ≡ false → empty_table_place t p ≡ []
bare_none t [] e = refl
bare_none t (s ∷ ss) e = ap (λ b. cond b ((s ∷ ss) ∷ []) []) e

pub bare_some : (t : Tree) (p : Place) → (p ≡ [] → ⊥) → is_empty_table (t p) ≡ true
    → empty_table_place t p ≡ p ∷ []
bare_some t [] inner e = absurd (inner refl)
bare_some t (s ∷ ss) inner e = ap (λ b. cond b ((s ∷ ss) ∷ []) []) e

-- ---- both removals

module _ (path : List (List ℕ)) (name : List ℕ) (old : DocumentViews) (form : Text) (r p : Place)
    (table : r ≡ place_of_keys path)
    (entry : p ≡ at r (key name)) (reads : IsDocument old.bytes form) (shown : ShowsTree old form) where
  place_is : p ≡ entry_of path name
  place_is = entry ∙ ap (λ q. at q (key name)) table

  -- the entry is removed
  first_out : (middle : DocumentViews) (g : Text) → middle.bytes ≡ removed_text p form
      → IsDocument middle.bytes g
      → ShowsTree middle g → Removed form p (tree_of old) (tree_of middle)
      → IsTextWithout (entry_of path name ∷ []) old.bytes middle.bytes
  first_out middle g bytes again shows removed = subst (λ q. IsTextWithout (q ∷ []) old.bytes middle.bytes) place_is
      (without_one p form g old.bytes middle.bytes reads bytes again
      (shown_removed form g p old middle shown shows removed))

  pub taken_out : (middle new : DocumentViews) (g : Text) → missing_table (tree_of old) path ≡ None
      → (tree_of old p ≡ None → ⊥)
      → middle.bytes ≡ removed_text p form → IsDocument middle.bytes g → ShowsTree middle g
      → Removed form p (tree_of old) (tree_of middle)
      → IsTextWithout (empty_table_place (tree_of middle) r) middle.bytes new.bytes
      → RemovesEntry path name old new
  taken_out middle new g tables stood bytes again shows removed rest = record {
    tables = tables;
    stood = subst (λ q. tree_of old q ≡ None → ⊥) place_is stood;
    between = middle.bytes;
    entry = first_out middle g bytes again shows removed;
    form = g;
    reads = again;
    emptied = subst (λ (ps : List Place). IsTextWithout ps middle.bytes new.bytes)
        (ap (empty_table_place (tree_of middle)) table ∙ bare_same (tree_of middle) (view_at g) (place_of_keys path)
        (shows (place_of_keys path)))
        rest;
  }

  entry_there : (m : Option (List ℕ)) (o : Option View) (e : Error) → m ≡ None → (o ≡ None → ⊥)
      → (e ≡ EditRefused) × HasFailedEntryRemoval path name old.bytes
      → IsRemovalError path name old.bytes m o e
  entry_there None None e tables stood why = absurd (stood refl)
  entry_there None (Some v) e tables stood why = why
  entry_there (Some s) o e tables stood why = absurd cc

  refused_for : (e : Error) → missing_table (tree_of old) path ≡ None → (tree_of old p ≡ None → ⊥)
      → (e ≡ EditRefused) × HasFailedEntryRemoval path name old.bytes → IsEntryRemovalError path name old e
  refused_for e tables stood why =
      inr (entry_there (missing_table (tree_of old) path) (tree_of old (entry_of path name)) e tables
      (subst (λ q. tree_of old q ≡ None → ⊥) place_is stood) why)

  -- the entry cannot be removed
  pub entry_fails : (e : Error) → missing_table (tree_of old) path ≡ None → (tree_of old p ≡ None → ⊥)
      → IsMemory e ⊎ ((e ≡ EditRefused) × RemoveFails p old.bytes) → IsEntryRemovalError path name old e
  entry_fails e tables stood (inl memory) = inl memory
  entry_fails e tables stood (inr why) =
      refused_for e tables stood (
        why.0,
        entry_stays (first_stays (entry_of path name) [] old.bytes
            (subst (λ q. RemoveFails q old.bytes) place_is why.1)),
      )

  -- its table cannot
  pub table_fails : (middle : DocumentViews) (g : Text) (e : Error) → missing_table (tree_of old) path ≡ None
      → (tree_of old p ≡ None → ⊥) → middle.bytes ≡ removed_text p form → IsDocument middle.bytes g
      → ShowsTree middle g → Removed form p (tree_of old) (tree_of middle)
      → IsMemory e ⊎ ((e ≡ EditRefused) × HasFailedRemoval (empty_table_place (tree_of middle) r) middle.bytes)
      → IsEntryRemovalError path name old e
  table_fails middle g e tables stood bytes again shows removed (inl memory) = inl memory
  table_fails middle g e tables stood bytes again shows removed (inr why) =
      refused_for e tables stood (
        why.0,
        table_stays middle.bytes g (first_out middle g bytes again shows removed) again
            (subst (λ (ps : List Place). HasFailedRemoval ps middle.bytes)
            (ap (empty_table_place (tree_of middle)) table ∙ bare_same (tree_of middle) (view_at g) (place_of_keys path)
            (shows (place_of_keys path)))
            why.1),
      )
