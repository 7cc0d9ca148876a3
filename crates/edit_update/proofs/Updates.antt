-- Sequences of edits of keys, where they stop, and the updated entry.
use Rattle.std.proofs.Common.{◌≡◌, ℕ, ◌+◌, ◌<◌, suc, Bool, true, false, ◌&&◌, List, [], ◌∷◌, ◌++◌, Option, Some, None, length, map, get_or, take, drop, drop-cons, refl, sym, ap, ◌∙◌, subst, append_assoc, append-nil, ◌⊎◌, inl, inr}
use Rattle.std.specs.List.{cons_option, filter_map}
use Rattle.std.specs.Prelude.{is_some, option_map, MatchBool}
use Rattle.std.proofs.lemmas.List.{map-append, take-append-drop, take_more}
use Rattle.std.proofs.lemmas.List.Elements.{filter_map-append}
use Rattle.edit_base.specs.Errors.{IsMemory}
use Rattle.edit_base.specs.declared.errors.Error.{Error}
use Rattle.edit_base.specs.declared.errors.Error.TheVariants.{EditRefused}
use Rattle.edit_tree.specs.Assertions.{IsDocument, Place, at, key}
use Rattle.edit_tree.specs.EditBytes.{is_one_statement, replaced_text}
use Rattle.edit_document.specs.ItemViews.{document_of, place_of}
use Rattle.edit_document.specs.declared.item.Item.{Item}
use Rattle.edit_tree.specs.NewItems.{IsEntry, NewItem}
use Rattle.edit_document.specs.NewItemViews.{new_value_view}
use Rattle.edit_document.specs.declared.new_item.NewValue.{NewValue as WrittenValue}
use Rattle.edit_tree.specs.DocumentViews.{DocumentViews, ShowsTree, tree_of}
use Rattle.edit_tree.specs.Tree.{View, is_value_at, view_at}
use Rattle.edit_tree.specs.IntendedTrees.{Tree, HasSet, HasReplaced, Inserted, Removed}
use Rattle.edit_tree.proofs.EditedDocuments.{inserted_along, removed_along, replaced_along}
use Rattle.edit_update.specs.FinalValueViews.{final_value_view, final_values_view}
use Rattle.edit_record.specs.EntryRecords.{EntryRecord, Origin, from_registry, from_path, from_git, from_workspace}
use Rattle.edit_update.specs.EntryUpdates.{Change, FinalValue, changed_by, changes, final_values_of, has_single_key, removal_of, removes, replaced_by, update_of, writes}
use Rattle.edit_record.specs.NewEntries.{is_short, item_by, item_of}
use Rattle.edit_record.specs.ReadEntries.{below}
use Rattle.edit_record.specs.RecordViews.{item_tree}
use Rattle.edit_update.specs.UpdatedTexts.{ChangeFails, Changed, HasChanged, IsSame, OneFails, ReadsChanged, ReadsReplaced, changed_text, is_there, update_in}
use Rattle.edit_update.specs.declared.final_values.FinalValue.{FinalValue as WrittenEnd}
use Rattle.edit_syntax.specs.Grammar.{Text}

-- ---- texts

-- edits, and then others
pub then_others : (entry : Place) (cs ds : List Change) (old mid new : List ℕ)
    → Changed entry cs old mid → Changed entry ds mid new → Changed entry (cs ++ ds) old new
then_others entry [] ds old mid new same rest = subst (λ b. Changed entry ds b new) same rest
then_others entry (c ∷ cs) ds old mid new h rest =
    (h.0, h.1, h.2, then_others entry cs ds (changed_text entry c h.0) mid new h.3 rest)

-- one edit more, whatever form the text before it has
one_more : (entry : Place) (cs : List Change) (c : Change) (old mid new : List ℕ)
    → Changed entry cs old mid → ((form : Text) × IsDocument mid form)
    → ((form : Text) → IsDocument mid form → new ≡ changed_text entry c form)
    → ((form : Text) → IsDocument mid form → ReadsChanged entry c form)
    → Changed entry (cs ++ c ∷ []) old new
one_more entry cs c old mid new h is by tree =
    then_others entry cs (c ∷ []) old mid new h (is.0, is.1, tree is.0 is.1, by is.0 is.1)

-- ---- trees

-- what two documents show after an edit, their forms show
changed_along : (entry : Place) (c : Change) (form : Text) (s t u w : Tree) → ((q : Place) → s q ≡ t q)
    → ((q : Place) → u q ≡ w q) → HasChanged entry c form s u → HasChanged entry c form t w
changed_along entry (writes name v) form s t u w old new h =
    go (is_value_at form (at entry (key name))) (is_there form (at entry (key name))) h
  where
    go : (a b : Bool)
        → MatchBool a (HasSet (at entry (key name)) v s u)
        (MatchBool b (IsSame s u) (Inserted entry name v s u))
        → MatchBool a (HasSet (at entry (key name)) v t w)
        (MatchBool b (IsSame t w) (Inserted entry name v t w))
    go true b g = record {
      there = λ q. sym (new (at entry (key name) ++ q)) ∙ g.there q;
      elsewhere = λ q out. sym (new q) ∙ g.elsewhere q out ∙ old q;
    }
    go false true g = λ q. sym (new q) ∙ g q ∙ old q
    go false false g = inserted_along entry name v s t u w old new g
changed_along entry (removes name) form s t u w old new h = go (is_there form (at entry (key name))) h
  where
    go : (b : Bool)
        → MatchBool b (Removed form (at entry (key name)) s u) (IsSame s u)
        → MatchBool b (Removed form (at entry (key name)) t w) (IsSame t w)
    go true g = removed_along form (at entry (key name)) s t u w old new g
    go false g = λ q. sym (new q) ∙ g q ∙ old q

-- a document after an edit
pub reads_changed : (entry : Place) (c : Change) (form after : Text) (old new : DocumentViews)
    → ShowsTree old form
    → IsDocument new.bytes after → ShowsTree new after → new.bytes ≡ changed_text entry c form
    → HasChanged entry c form (tree_of old) (tree_of new) → ReadsChanged entry c form
reads_changed entry c form after old new was again is e h = record {
  after = after;
  reads = subst (λ (b : List ℕ). IsDocument b after) e again;
  shows = changed_along entry c form (tree_of old) (view_at form) (tree_of new) (view_at after) was is h;
}

-- a document with another entry
pub reads_replaced : (entry : Place) (item : NewItem) (form after : Text) (old new : DocumentViews)
    → ShowsTree old form → IsDocument new.bytes after → ShowsTree new after
    → new.bytes ≡ replaced_text entry item form
    → HasReplaced entry item (tree_of old) (tree_of new) → ReadsReplaced entry item form
reads_replaced entry item form after old new was again is e h = record {
  after = after;
  reads = subst (λ (b : List ℕ). IsDocument b after) e again;
  shows = replaced_along entry item (tree_of old) (view_at form) (tree_of new) (view_at after) was is h;
}

-- ---- errors

-- an edit fails behind others
stops : (entry : Place) (front : List Change) (c : Change) (back : List Change) (old mid : List ℕ)
    → Changed entry front old mid → ChangeFails entry c mid → OneFails entry (front ++ c ∷ back) old
stops entry front c back old mid h fails = record {
  front = front;
  refused = c;
  back = back;
  split = refl;
  bytes = mid;
  changed = h;
  fails = fails;
}

-- an edit that fails among the first ones fails among more
pub stops_before : (entry : Place) (cs ds : List Change) (old : List ℕ)
    → OneFails entry cs old → OneFails entry (cs ++ ds) old
stops_before entry cs ds old h = record {
  front = h.front;
  refused = h.refused;
  back = h.back ++ ds;
  split = ap (λ l. l ++ ds) h.split ∙ append_assoc h.front (h.refused ∷ h.back) ds;
  bytes = h.bytes;
  changed = h.changed;
  fails = h.fails;
}

-- and among edits behind others
pub stops_behind : (entry : Place) (cs ds : List Change) (old mid : List ℕ)
    → Changed entry cs old mid → OneFails entry ds mid → OneFails entry (cs ++ ds) old
stops_behind entry cs ds old mid done h = record {
  front = cs ++ h.front;
  refused = h.refused;
  back = h.back;
  split = ap (λ l. cs ++ l) h.split ∙ sym (append_assoc cs h.front (h.refused ∷ h.back));
  bytes = h.bytes;
  changed = then_others entry cs h.front old mid h.bytes done h.changed;
  fails = h.fails;
}

-- ---- one iteration of a loop over the final values of keys

module _ (f : FinalValue → Option Change) (entry : Place) (xs : List WrittenEnd) (i : ℕ) (x : WrittenEnd)
    (within : i < length xs) (here : x ≡ get_or xs i x) where
  -- what an end gives behind those before it
  given : filter_map f (final_values_view (take (i + 1) xs))
      ≡ filter_map f (final_values_view (take i xs)) ++ cons_option (f (final_value_view x)) []
  given =
      ap (λ l. filter_map f (map final_value_view l))
      (take_more xs i x within ∙ ap (λ (y : WrittenEnd). take i xs ++ y ∷ []) (sym here))
      ∙ ap (filter_map f) (map-append final_value_view (take i xs) (x ∷ []))
      ∙ filter_map-append f (map final_value_view (take i xs)) (final_value_view x ∷ [])

  -- all ends are those before one, that one, and those behind it
  parted : filter_map f (final_values_view xs)
      ≡ filter_map f (final_values_view (take i xs)) ++ filter_map f (final_value_view x ∷ final_values_view (drop (suc i) xs))
  parted =
      ap (λ l. filter_map f (map final_value_view l))
      (sym (take-append-drop i xs) ∙ ap (λ l. take i xs ++ l) (drop-cons xs i x within)
      ∙ ap (λ (y : WrittenEnd). take i xs ++ y ∷ drop (suc i) xs) (sym here))
      ∙ ap (filter_map f) (map-append final_value_view (take i xs) (x ∷ drop (suc i) xs))
      ∙ filter_map-append f (map final_value_view (take i xs)) (map final_value_view (x ∷ drop (suc i) xs))

  -- a final value without an edit
  pub no_edit : (old mid : List ℕ) → f (final_value_view x) ≡ None
      → Changed entry (filter_map f (final_values_view (take i xs))) old mid
      → Changed entry (filter_map f (final_values_view (take (i + 1) xs))) old mid
  no_edit old mid is h =
      let same = given ∙ ap (λ (o : Option Change). filter_map f (final_values_view (take i xs)) ++ cons_option o [])
      is
      ∙ append-nil (filter_map f (final_values_view (take i xs))) in
      subst (λ cs. Changed entry cs old mid) (sym same) h

  -- a final value with an edit that succeeded
  pub one_made : (c : Change) (old mid new : List ℕ) → f (final_value_view x) ≡ Some c
      → Changed entry (filter_map f (final_values_view (take i xs))) old mid
      → ((form : Text) × IsDocument mid form)
      → ((form : Text) → IsDocument mid form → new ≡ changed_text entry c form)
      → ((form : Text) → IsDocument mid form → ReadsChanged entry c form)
      → Changed entry (filter_map f (final_values_view (take (i + 1) xs))) old new
  one_made c old mid new is h reads by tree =
      let same = given
      ∙ ap (λ (o : Option Change). filter_map f (final_values_view (take i xs)) ++ cons_option o []) is in
      subst (λ cs. Changed entry cs old new) (sym same)
      (one_more entry (filter_map f (final_values_view (take i xs))) c old mid new h reads by tree)

  -- a final value with an edit that failed
  pub one_refused : (c : Change) (old mid : List ℕ) (e : Error) → f (final_value_view x) ≡ Some c
      → Changed entry (filter_map f (final_values_view (take i xs))) old mid
      → IsMemory e ⊎ ((e ≡ EditRefused) × ChangeFails entry c mid)
      → IsMemory e ⊎ ((e ≡ EditRefused) × OneFails entry (filter_map f (final_values_view xs)) old)
  one_refused c old mid e is h (inl memory) = inl memory
  one_refused c old mid e is h (inr p) =
      let rest = filter_map f (final_values_view (drop (suc i) xs)) in
      let same = parted
      ∙ ap (λ (o : Option Change). filter_map f (final_values_view (take i xs)) ++ cons_option o rest) is in
      inr (
        p.0,
        subst (λ cs. OneFails entry cs old) (sym same)
            (stops entry (filter_map f (final_values_view (take i xs))) c rest old mid h p.1),
      )

-- a member that ends without a value is removed, and another one is not
pub is_removed : (name : List ℕ) (o : Option WrittenValue) → is_some o ≡ false
    → removal_of (name, option_map new_value_view o) ≡ Some (removes name)
is_removed name None is = refl
is_removed name (Some v) is = absurd cc

pub is_remaining : (name : List ℕ) (o : Option WrittenValue) → is_some o ≡ true
    → removal_of (name, option_map new_value_view o) ≡ None
is_remaining name None is = absurd cc
is_remaining name (Some v) is = refl

-- ---- the updated entry

-- a new entry can be written
entry_by : (root : List ℕ) (r : EntryRecord) (o : Option Origin) (b : Bool) → IsEntry (item_by root r o b)
entry_by root r None b = tt
entry_by root r (Some (from_registry v)) true = tt
entry_by root r (Some (from_registry v)) false = tt
entry_by root r (Some (from_path p v)) b = tt
entry_by root r (Some (from_git g)) b = tt
entry_by root r (Some from_workspace) true = refl
entry_by root r (Some from_workspace) false = tt

pub is_entry : (root : List ℕ) (r : EntryRecord) → IsEntry (item_of root r)
is_entry root r = entry_by root r r.origin (is_short r)

-- the tree of an entry, by a document and by its form
entry_tree : (d : DocumentViews) (form : Text) (place : Place) → ShowsTree d form
    → below (tree_of d) place ≡ below (view_at form) place
entry_tree d form place shows = λ i rest. shows (place ++ rest) i

-- it is replaced
is_other : (d : DocumentViews) (form : Text) (place : Place) (root : List ℕ) (r : EntryRecord)
    → ShowsTree d form → (is_one_statement form place && has_single_key (tree_of d place)) ≡ true
    → update_in form place root r ≡ replaced_by (item_of root r)
is_other d form place root r shows is =
    ap (λ t. update_of t (is_one_statement form place) root r) (sym (entry_tree d form place shows))
    ∙ rw (ap (λ p. is_one_statement form place && has_single_key (tree_of d p)) (append-nil place) ∙ is) refl

-- or its members change
is_changed : (d : DocumentViews) (form : Text) (place : Place) (root : List ℕ) (r : EntryRecord) (es : List FinalValue)
    → ShowsTree d form → (is_one_statement form place && has_single_key (tree_of d place)) ≡ false
    → es ≡ final_values_of (below (tree_of d) place) root r
    → update_in form place root r ≡ changed_by (changes es)
is_changed d form place root r es shows is same =
    ap (λ t. update_of t (is_one_statement form place) root r) (sym (entry_tree d form place shows))
    ∙ rw (ap (λ p. is_one_statement form place && has_single_key (tree_of d p)) (append-nil place) ∙ is) refl
    ∙ ap (λ l. changed_by (changes l)) (sym same)

-- the final values for an item's tree are those for the entry's place
entry_ends : (i : Item) (d : DocumentViews) (place : Place) (root : List ℕ) (r : EntryRecord) (es : List FinalValue)
    → document_of i ≡ d → place_of i ≡ place → es ≡ final_values_of (item_tree i) root r
    → es ≡ final_values_of (below (tree_of d) place) root r
entry_ends i d place root r es same there is =
    is ∙ ap (λ t. final_values_of t root r) (λ j. below (tree_of (same j)) (there j))

-- an item at the place decides whether another entry comes there
decided : (d : DocumentViews) (form : Text) (place : Place) (v : Option View) (b c : Bool)
    → tree_of d place ≡ v → b ≡ (is_one_statement form place && has_single_key v) → b ≡ c
    → (is_one_statement form place && has_single_key (tree_of d place)) ≡ c
decided d form place v b c here is same = ap (λ o. is_one_statement form place && has_single_key o) here ∙ sym is
    ∙ same

pub item_other : (d : DocumentViews) (form : Text) (place : Place) (root : List ℕ) (r : EntryRecord) (v : Option View)
    (b : Bool)
    → ShowsTree d form → tree_of d place ≡ v → b ≡ (is_one_statement form place && has_single_key v)
    → b ≡ true
    → update_in form place root r ≡ replaced_by (item_of root r)
item_other d form place root r v b shows here is same =
    is_other d form place root r shows (decided d form place v b true here is same)

pub item_changed : (i : Item) (d : DocumentViews) (form : Text) (place : Place) (root : List ℕ) (r : EntryRecord)
    (es : List FinalValue)
    (v : Option View) (b : Bool)
    → ShowsTree d form → document_of i ≡ d → place_of i ≡ place → es ≡ final_values_of (item_tree i) root r
    → tree_of d place ≡ v → b ≡ (is_one_statement form place && has_single_key v) → b ≡ false
    → update_in form place root r ≡ changed_by (changes es)
item_changed i d form place root r es v b shows same there ends_are here is fails =
    is_changed d form place root r es shows (decided d form place v b false here is fails)
    (entry_ends i d place root r es same there ends_are)
