-- Items removed one after the other: one more, and the one that cannot be removed.
use Rattle.std.proofs.Common.{◌≡◌, ℕ, List, [], ◌∷◌, ◌++◌, Some, refl, sym, subst, ◌∙◌}
use Rattle.std.specs.List.{AllByRecursion}
use Rattle.edit_tree.specs.Assertions.{IsDocument, Place}
use Rattle.edit_tree.specs.IntendedTrees.{Tree, Removed, RemoveFails}
use Rattle.edit_tree.specs.RemovedBytes.{removed_text}
use Rattle.edit_tree.specs.DocumentViews.{DocumentViews, ShowsTree, tree_of}
use Rattle.edit_tree.specs.Tree.{string, view_at}
use Rattle.edit_syntax.specs.Grammar.{Text}
use Rattle.edit_tree.proofs.EditedDocuments.{removed_along}
use Rattle.edit_update.specs.Removals.{IsTextWithout, none, next, HasFailedRemoval, AreStrings, HasString, IsUnmovedBy}
use Rattle.edit_update.proofs.StayingStrings.{string_stays}

-- what the trees of two documents show, their forms show
pub shown_removed : (form left : Text) (place : Place) (old new : DocumentViews) → ShowsTree old form
    → ShowsTree new left → Removed form place (tree_of old) (tree_of new)
    → Removed form place (view_at form) (view_at left)
shown_removed form left place old new shows shown h =
    removed_along form place (tree_of old) (view_at form) (tree_of new) (view_at left) shows shown h

-- the text without one item
pub without_one : (place : Place) (form left : Text) (old new : List ℕ) → IsDocument old form
    → new ≡ removed_text place form → IsDocument new left
    → Removed form place (view_at form) (view_at left) → IsTextWithout (place ∷ []) old new
without_one place form left old new reads e again removed =
    next place [] form left old new reads (subst (λ (b : List ℕ). IsDocument b left) e again) removed
    (rw e (none (removed_text place form)))

-- and without one more
pub without_more : (places : List Place) (place : Place) (form left : Text) (old middle new : List ℕ)
    → IsTextWithout places old middle → IsDocument middle form → new ≡ removed_text place form
    → IsDocument new left → Removed form place (view_at form) (view_at left)
    → IsTextWithout (places ++ place ∷ []) old new
without_more _ place form left _ middle new (none bytes) reads e again removed =
    without_one place form left middle new reads e again removed
without_more _ place form left _ middle new (next p more g l old last is so by rest) reads e again removed =
    next p (more ++ place ∷ []) g l old new is so by
    (without_more more place form left (removed_text p g) last new rest reads e again removed)

-- the first cannot be removed
pub first_stays : (place : Place) (more : List Place) (old : List ℕ) → RemoveFails place old
    → HasFailedRemoval (place ∷ more) old
first_stays place more old fails = record {
  front = [];
  place = place;
  back = more;
  split = refl;
  bytes = old;
  without = none old;
  fails = fails;
}

-- the strings that are left are at the same places
pub strings_left : (form : Text) (gone : Place) (places : List Place) (old new : Tree)
    → Removed form gone old new → AllByRecursion (IsUnmovedBy gone) places
    → AreStrings old places → AreStrings new places
strings_left form gone [] old new removed out strings = tt
strings_left form gone (p ∷ places) old new removed out strings = (
  string_stays form gone p old new removed out.0 strings.0,
  strings_left form gone places old new removed out.1 strings.1,
)

-- no string is the root
pub string_inner : (form : Text) (t : Tree) (p : Place) → ((q : Place) → t q ≡ view_at form q) → HasString t p
    → p ≡ [] → ⊥
string_inner form t [] shows h e = never (sym (shows []) ∙ h.1)
  where
    never : view_at form [] ≡ Some (string h.0) → ⊥
    never is = cc
string_inner form t (s ∷ ss) shows h e = cc

-- one of them cannot be removed
pub one_stays : (places front back : List Place) (place : Place) (old bytes : List ℕ)
    → places ≡ front ++ place ∷ back → IsTextWithout front old bytes → RemoveFails place bytes
    → HasFailedRemoval places old
one_stays places front back place old bytes split without fails = record {
  front = front;
  place = place;
  back = back;
  split = split;
  bytes = bytes;
  without = without;
  fails = fails;
}
