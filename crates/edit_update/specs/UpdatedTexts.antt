-- The text of a document after an entry is updated from a `Dependency`, and when that fails.
use Rattle.std.specs.Prelude.{◌≡◌, ℕ, Bool, List, [], ◌∷◌, ◌++◌, None, is_some, if◌then◌else◌, MatchBool}
use Rattle.edit_tree.specs.Assertions.{key, Place, at, IsDocument}
use Rattle.edit_tree.specs.EditBytes.{set_text, replaced_text, inserted_text, is_one_statement}
use Rattle.edit_tree.specs.IntendedTrees.{Tree, HasSet, HasReplaced, Inserted, Removed, ReplaceFails, InsertFails, RemoveFails}
use Rattle.edit_tree.specs.NewItems.{NewItem}
use Rattle.edit_tree.specs.RemovedBytes.{removed_text}
use Rattle.edit_tree.specs.Tree.{is_value_at, view_at}
use Rattle.edit_record.specs.EntryRecords.{EntryRecord}
use Rattle.edit_update.specs.EntryUpdates.{Change, writes, removes, Update, replaced_by, changed_by, update_of}
use Rattle.edit_record.specs.ReadEntries.{below}
use Rattle.edit_syntax.specs.Grammar.{Text, text}

-- ---- the text

-- the place has an item (own)
abbrev pub is_there : Text → Place → Bool
is_there form place = is_some (view_at form place)

-- two trees have the same item at each place (own)
abbrev pub IsSame : Tree → Tree → Type 0
IsSame old new = (q : Place) → new q ≡ old q

-- The text after one edit of a key: an existing value gets a new literal, and a missing key is inserted; a
-- removed key is deleted. An item that is not written as a value has no literal, and is unchanged (own).
abbrev pub changed_text : Place → Change → Text → List ℕ
changed_text entry (writes name v) form =
    if is_value_at form (at entry (key name)) then set_text (at entry (key name)) v form
    else if is_there form (at entry (key name)) then text form
    else inserted_text entry name v form
changed_text entry (removes name) form =
    if is_there form (at entry (key name)) then removed_text (at entry (key name)) form else text form

-- The tree after one edit of a key: a value is replaced, a key is inserted, or a key is removed; an item
-- that is not written as a value, a key that is not there to be removed, and everything else is unchanged
-- (own).
abbrev pub HasChanged : Place → Change → Text → Tree → Tree → Type 0
HasChanged entry (writes name v) form old new =
    MatchBool (is_value_at form (at entry (key name))) (HasSet (at entry (key name)) v old new)
    (MatchBool (is_there form (at entry (key name))) (IsSame old new) (Inserted entry name v old new))
HasChanged entry (removes name) form old new =
    MatchBool (is_there form (at entry (key name))) (Removed form (at entry (key name)) old new)
    (IsSame old new)

-- the text after one edit of a key is a document with the tree after that edit (own)
pub record ReadsChanged (entry : Place) (c : Change) (form : Text) : Type 0 where
  pub after : Text
  pub reads : IsDocument (changed_text entry c form) after
  pub shows : HasChanged entry c form (view_at form) (view_at after)

-- Edits of keys, one after the other, lead from one text to another, through documents with the trees after
-- these edits (own).
abbrev pub Changed : Place → List Change → List ℕ → List ℕ → Type 0
Changed entry [] old new = new ≡ old
Changed entry (c ∷ cs) old new =
    (form : Text) × IsDocument old form × ReadsChanged entry c form
    × Changed entry cs (changed_text entry c form) new

-- the text after the entry is replaced is a document with the new entry at its place, and everything else
-- unchanged (own)
pub record ReadsReplaced (entry : Place) (item : NewItem) (form : Text) : Type 0 where
  pub after : Text
  pub reads : IsDocument (replaced_text entry item form) after
  pub shows : HasReplaced entry item (view_at form) (view_at after)

-- the text after this update of the entry, with its tree (own)
abbrev pub IsUpdatedText : Place → Update → Text → List ℕ → List ℕ → Type 0
IsUpdatedText entry (replaced_by item) form old new =
    (new ≡ replaced_text entry item form) × ReadsReplaced entry item form
IsUpdatedText entry (changed_by edits) form old new = Changed entry edits old new

-- the update of the entry at a place of a text (own)
abbrev pub update_in : Text → Place → List ℕ → EntryRecord → Update
update_in form entry root r = update_of (below (view_at form) entry) (is_one_statement form entry) root r

-- the text after the entry is updated from a dependency (own)
abbrev pub Updated : Place → List ℕ → EntryRecord → List ℕ → List ℕ → Type 0
Updated entry root r old new =
    (form : Text) → IsDocument old form → IsUpdatedText entry (update_in form entry root r) form old new

-- ---- errors

-- the edit of a key fails: it inserts or removes a key, and the document cannot be edited that way (own)
abbrev pub ChangeFails : Place → Change → List ℕ → Type 0
ChangeFails entry (writes name v) old =
    ((form : Text) → IsDocument old form → view_at form (at entry (key name)) ≡ None)
    × InsertFails entry name v old
ChangeFails entry (removes name) old =
    ((form : Text) → IsDocument old form → view_at form (at entry (key name)) ≡ None → ⊥)
    × RemoveFails (at entry (key name)) old

-- one of the edits fails, in the text that the edits before it leave (own)
pub record OneFails (entry : Place) (edits : List Change) (old : List ℕ) : Type 0 where
  pub front : List Change
  pub refused : Change
  pub back : List Change
  pub split : edits ≡ front ++ refused ∷ back
  pub bytes : List ℕ
  pub changed : Changed entry front old bytes
  pub fails : ChangeFails entry refused bytes

-- an edit of this update fails (own)
abbrev pub HasFailedUpdate : Place → Update → List ℕ → Type 0
HasFailedUpdate entry (replaced_by item) old = ReplaceFails entry item old
HasFailedUpdate entry (changed_by edits) old = OneFails entry edits old

-- an edit fails while the entry is updated from a dependency (own)
abbrev pub UpdateFails : Place → List ℕ → EntryRecord → List ℕ → Type 0
UpdateFails entry root r old =
    (form : Text) → IsDocument old form → HasFailedUpdate entry (update_in form entry root r) old
