-- When the text after an edit has another tree than the intended one.
use Rattle.std.proofs.Common.{◌≡◌, ℕ, List, Option, sym, ap, subst, ◌∙◌}
use Rattle.edit_syntax.specs.Grammar.{Text}
use Rattle.edit_tree.specs.Assertions.{IsDocument, Place, key}
use Rattle.edit_tree.specs.Tree.{View, view_at}
use Rattle.edit_tree.specs.EditBytes.{inserted_text, replaced_text}
use Rattle.edit_tree.specs.RemovedBytes.{removed_text}
use Rattle.edit_tree.specs.NewItems.{NewValue, NewItem}
use Rattle.edit_tree.specs.IntendedTrees.{Tree, Grown, Inserted, InsertFails, SameButOrder, Loses, place_after_removal, Removed, RemoveFails, item_view, above, is_inline_table, HasReplaced, ReplaceFails}

-- two trees that show the same everywhere
abbrev Alike : Tree → Tree → Type 0
Alike s t = (q : Place) → s q ≡ t q

pub inserted_along : (place : Place) (name : List ℕ) (v : NewValue) (s t u w : Tree) → Alike s t → Alike u w
    → Inserted place name v s u → Inserted place name v t w
inserted_along place name v s t u w old new h = record {
  there = λ q. sym (new _) ∙ h.there q;
  grown = subst (λ o. Grown (key name) o (w place)) (old place)
      (subst (λ o. Grown (key name) (s place) o) (new place) h.grown);
  elsewhere = λ q out other. sym (new q) ∙ h.elsewhere q out other ∙ old q;
}

pub replaced_along : (place : Place) (item : NewItem) (s t u w : Tree) → Alike s t → Alike u w
    → HasReplaced place item s u → HasReplaced place item t w
replaced_along place item s t u w old new h = record {
  there = λ q. sym (new _) ∙ h.there q
      ∙ ap (λ (o : Option View). item_view (is_inline_table o) item q) (old (above place));
  elsewhere = λ q out. sym (new q) ∙ h.elsewhere q out ∙ old q;
}

-- the text is no document
pub insert_unread : (place : Place) (name : List ℕ) (v : NewValue) (old text : List ℕ)
    → ((form : Text) → IsDocument old form → text ≡ inserted_text place name v form)
    → ((form : Text) → IsDocument text form → ⊥) → InsertFails place name v old
insert_unread place name v old text written unread form was read is meant =
    unread read (subst (λ (b : List ℕ). IsDocument b read) (sym (written form was)) is)

pub replace_unread : (place : Place) (item : NewItem) (old text : List ℕ)
    → ((form : Text) → IsDocument old form → text ≡ replaced_text place item form)
    → ((form : Text) → IsDocument text form → ⊥) → ReplaceFails place item old
replace_unread place item old text written unread form was read is meant =
    unread read (subst (λ (b : List ℕ). IsDocument b read) (sym (written form was)) is)

-- the text has another tree
pub insert_other : (place : Place) (name : List ℕ) (v : NewValue) (old text : List ℕ) (s u : Tree)
    → ((form : Text) → IsDocument old form → text ≡ inserted_text place name v form)
    → ((form : Text) → IsDocument old form → Alike s (view_at form))
    → ((form : Text) → IsDocument text form → Alike u (view_at form))
    → (Inserted place name v s u → ⊥) → InsertFails place name v old
insert_other place name v old text s u written shows shown other form was read is meant =
    let here = subst (λ (b : List ℕ). IsDocument b read) (sym (written form was)) is in
    other (inserted_along place name v (view_at form) s (view_at read) u (λ q. sym (shows form was q))
    (λ q. sym (shown read here q)) meant)

pub replace_other : (place : Place) (item : NewItem) (old text : List ℕ) (s u : Tree)
    → ((form : Text) → IsDocument old form → text ≡ replaced_text place item form)
    → ((form : Text) → IsDocument old form → Alike s (view_at form))
    → ((form : Text) → IsDocument text form → Alike u (view_at form))
    → (HasReplaced place item s u → ⊥) → ReplaceFails place item old
replace_other place item old text s u written shows shown other form was read is meant =
    let here = subst (λ (b : List ℕ). IsDocument b read) (sym (written form was)) is in
    other (replaced_along place item (view_at form) s (view_at read) u (λ q. sym (shows form was q))
    (λ q. sym (shown read here q)) meant)

-- ---- without an item

pub removed_along : (form : Text) (gone : Place) (s t u w : Tree) → Alike s t → Alike u w
    → Removed form gone s u → Removed form gone t w
removed_along form gone s t u w old new h = record {
  nothing_there = λ member q low. sym (new q) ∙ h.nothing_there member q low;
  beside = λ q below above. subst (λ o. SameButOrder o (w (place_after_removal gone q))) (old q)
      (subst (λ o. SameButOrder (s q) o) (new (place_after_removal gone q)) (h.beside q below above));
  stays = λ q x r e next. subst (λ o. SameButOrder o (w q)) (old q)
      (subst (λ o. SameButOrder (s q) o) (new q) (h.stays q x r e next));
  loses = λ q x r e left lost. subst (λ o. Loses x o (w q)) (old q)
      (subst (λ o. Loses x (s q) o) (new q) (h.loses q x r e left lost));
  vanishes = λ q x r e lost. sym (new q) ∙ h.vanishes q x r e lost;
}

pub remove_unread : (gone : Place) (old text : List ℕ)
    → ((form : Text) → IsDocument old form → text ≡ removed_text gone form)
    → ((form : Text) → IsDocument text form → ⊥) → RemoveFails gone old
remove_unread gone old text written unread form was read is meant =
    unread read (subst (λ (b : List ℕ). IsDocument b read) (sym (written form was)) is)

pub remove_other : (gone : Place) (old text : List ℕ) (s u : Tree)
    → ((form : Text) → IsDocument old form → text ≡ removed_text gone form)
    → ((form : Text) → IsDocument old form → Alike s (view_at form))
    → ((form : Text) → IsDocument text form → Alike u (view_at form))
    → ((form : Text) → IsDocument old form → Removed form gone s u → ⊥) → RemoveFails gone old
remove_other gone old text s u written shows shown other form was read is meant =
    let here = subst (λ (b : List ℕ). IsDocument b read) (sym (written form was)) is in
    other form was (removed_along form gone (view_at form) s (view_at read) u (λ q. sym (shows form was q))
    (λ q. sym (shown read here q)) meant)
