-- The entries that get a row after the edits: the same ones, with the new requirements.
use Rattle.std.proofs.Common.{◌≡◌, ◌∷◌, [], List, ℕ, map, Option, Some, None, false, refl, ap, ◌∙◌, sym, inl, inr, ◌⊎◌}
use Rattle.std.specs.Prelude.{option_and_then, option_map}
use Rattle.std.specs.List.{AllByRecursion, AllZip, cons_option, filter_map}
use Rattle.std.proofs.lemmas.Bool.{cases_Bool}
use Rattle.edit_tree.specs.Assertions.{Place, same_place}
use Rattle.edit_tree.specs.Replaces.{Edits, new_text, tree_with_strings}
use Rattle.edit_tree.proofs.SamePlace.{same_place_is, same_place_self}
use Rattle.edit_version.specs.Requirement.{cut}
use Rattle.edit_record.specs.EntryRecords.{EntryRecord, Origin, from_git, from_path, from_registry, from_workspace}
use Rattle.edit_manifest.specs.Tables.{Tree}
use Rattle.edit_manifest.specs.Entries.{Entry, entries}
use Rattle.edit_manifest.proofs.EntriesAfter.{entries-after, entry_after, said_after}
use Rattle.edit_manifest.proofs.RecordVersions.{versioned}
use Rattle.edit_upgrade.specs.Records.{RowEntry, Source, row_entries, row_entry_at, row_entry_of, source_of, with_row}
use Rattle.edit_upgrade.specs.Rows.{Line, with_write, write_on, writes}
use Rattle.edit_upgrade.proofs.SeenFacts.{AreApart, IsWrite, on-cases, writes-literals, writes-strings}

-- ---- what a write leaves

-- the requirement of an entry, once its row was written
abbrev pub old_after : Option (Place × List ℕ) → Option (List ℕ) → Option (List ℕ)
old_after None old = old
old_after (Some w) old = Some (cut w.1)

-- an entry, once its row was written
abbrev pub renew : RowEntry → Line → RowEntry
renew e line = record e { old = old_after (write_on e line) e.old }

-- entries, once their rows were written
abbrev pub renewed : List RowEntry → List Line → List RowEntry
renewed [] ls = []
renewed (e ∷ es) [] = e ∷ es
renewed (e ∷ es) (l ∷ ls) = renew e l ∷ renewed es ls

-- ---- one entry

-- an entry, once a text was written at its literal
abbrev seen_after : Option (List ℕ) → RowEntry → RowEntry
seen_after None s = s
seen_after (Some text) s = record s { old = Some (cut text) }

same-source : (e : Entry) (r : EntryRecord) (o : Option Source)
    → option_map (row_entry_at e r) o ≡ option_map (seen_after None) (option_map (row_entry_at e r) o)
same-source e r None = refl
same-source e r (Some source) = refl

other-version : (e : Entry) (r : EntryRecord) (text : List ℕ) (o : Option Origin) → r.origin ≡ o
    → row_entry_of e (versioned (cut text) r) ≡ option_map (seen_after (Some text)) (row_entry_of e r)
other-version e r text None q = rw q refl
other-version e r text (Some (from_registry v)) q = rw q refl
other-version e r text (Some (from_path p v)) q = rw q refl
other-version e r text (Some (from_git g)) q = rw q refl
other-version e r text (Some from_workspace) q = rw q refl

said-again : (e : Entry) (n : Option (List ℕ)) (o : Option EntryRecord)
    → option_and_then (row_entry_of e) (said_after n o) ≡ option_map (seen_after n) (option_and_then (row_entry_of e) o)
said-again e None None = refl
said-again e (Some text) None = refl
said-again e None (Some r) = same-source e r (source_of r)
said-again e (Some text) (Some r) = other-version e r text r.origin refl

own-literal : (ws : Edits) (e : Entry) (r : EntryRecord) (o : Option Source)
    → option_map (seen_after (new_text ws e.literal)) (option_map (row_entry_at e r) o)
    ≡ option_map (λ s. seen_after (new_text ws s.literal) s) (option_map (row_entry_at e r) o)
own-literal ws e r None = refl
own-literal ws e r (Some source) = refl

own-literals : (ws : Edits) (e : Entry) (o : Option EntryRecord)
    → option_map (seen_after (new_text ws e.literal)) (option_and_then (row_entry_of e) o)
    ≡ option_map (λ s. seen_after (new_text ws s.literal) s) (option_and_then (row_entry_of e) o)
own-literals ws e None = refl
own-literals ws e (Some r) = own-literal ws e r (source_of r)

row-after : (ws : Edits) (e : Entry)
    → with_row (entry_after ws e) ≡ option_map (λ s. seen_after (new_text ws s.literal) s) (with_row e)
row-after ws e = said-again e (new_text ws e.literal) e.said ∙ own-literals ws e e.said

-- ---- all entries

cons-mapped : {A : Type 0} (f : A → A) (o : Option A) (xs : List A)
    → cons_option (option_map f o) (map f xs) ≡ map f (cons_option o xs)
cons-mapped f None xs = refl
cons-mapped f (Some x) xs = refl

rows-after : (ws : Edits) (es : List Entry)
    → filter_map with_row (map (entry_after ws) es)
    ≡ map (λ (s : RowEntry). seen_after (new_text ws s.literal) s) (filter_map with_row es)
rows-after ws [] = refl
rows-after ws (e ∷ es) =
    ap (λ (o : Option RowEntry). cons_option o (filter_map with_row (map (entry_after ws) es))) (row-after ws e)
    ∙ ap (λ (xs : List RowEntry). cons_option
    (option_map (λ s. seen_after (new_text ws s.literal) s) (with_row e)) xs) (rows-after ws es)
    ∙ cons-mapped (λ (s : RowEntry). seen_after (new_text ws s.literal) s) (with_row e) (filter_map with_row es)

-- where no entry has its literal, nothing is written
untouched : (es : List RowEntry) (ls : List Line) (q : Place)
    → AllByRecursion (λ e. same_place e.literal q ≡ false) es → new_text (writes es ls) q ≡ None
untouched [] ls q h = refl
untouched (e ∷ es) [] q h = refl
untouched (e ∷ es) (l ∷ ls) q h = elim (on-cases e l) [
  | inl none ↦ ap (λ (o : Option (Place × List ℕ)). new_text (with_write o (writes es ls)) q) none
      ∙ untouched es ls q h.1
  | inr some ↦ ap (λ (o : Option (Place × List ℕ)). new_text (with_write o (writes es ls)) q) some.is
      ∙ rw h.0 (untouched es ls q h.1)
]

-- places differ both ways
other-way : (p q : Place) → same_place p q ≡ false → same_place q p ≡ false
other-way p q h = elim (cases_Bool (same_place q p)) [
  | inl same ↦ cc (sym h ∙ ap (same_place p) (same_place_is q p same) ∙ same_place_self p)
  | inr other ↦ other
]

apart-back : (e : RowEntry) (es : List RowEntry) → AllByRecursion (λ f. same_place e.literal f.literal ≡ false) es
    → AllByRecursion (λ f. same_place f.literal e.literal ≡ false) es
apart-back e [] h = tt
apart-back e (f ∷ es) h = (other-way e.literal f.literal h.0, apart-back e es h.1)

-- what is written at the literal of the first entry
first-after : (e : RowEntry) (l : Line) (ws : Edits) → new_text ws e.literal ≡ None
    → seen_after (new_text (with_write (write_on e l) ws) e.literal) e ≡ renew e l
first-after e l ws none = elim (on-cases e l) [
  | inl nothing ↦
      ap (λ (o : Option (Place × List ℕ)). seen_after (new_text (with_write o ws) e.literal) e) nothing
      ∙ ap (λ (o : Option (List ℕ)). seen_after o e) none
      ∙ sym (ap (λ (o : Option (Place × List ℕ)). record e { old = old_after o e.old }) nothing)
  | inr some ↦
      ap (λ (o : Option (Place × List ℕ)). seen_after (new_text (with_write o ws) e.literal) e) some.is
      ∙ rw (same_place_self e.literal) refl
      ∙ sym (ap (λ (o : Option (Place × List ℕ)). record e { old = old_after o e.old }) some.is)
]

-- a write elsewhere leaves what is written at literals
rest-after : (e : RowEntry) (l : Line) (ws : Edits) (es : List RowEntry)
    → AllByRecursion (λ f. same_place e.literal f.literal ≡ false) es
    → map (λ (s : RowEntry). seen_after (new_text (with_write (write_on e l) ws) s.literal) s) es
    ≡ map (λ (s : RowEntry). seen_after (new_text ws s.literal) s) es
rest-after e l ws [] h = refl
rest-after e l ws (f ∷ es) h =
    ap (λ (x : RowEntry). x ∷ map
    (λ (s : RowEntry). seen_after (new_text (with_write (write_on e l) ws) s.literal) s) es) (one (on-cases e l))
    ∙ ap (λ (xs : List RowEntry). seen_after (new_text ws f.literal) f ∷ xs) (rest-after e l ws es h.1)
  where
    one : (write_on e l ≡ None) ⊎ IsWrite e l
        → seen_after (new_text (with_write (write_on e l) ws) f.literal) f
        ≡ seen_after (new_text ws f.literal) f
    one (inl none) =
        ap (λ (o : Option (Place × List ℕ)). seen_after (new_text (with_write o ws) f.literal) f) none
    one (inr some) =
        ap (λ (o : Option (Place × List ℕ)). seen_after (new_text (with_write o ws) f.literal) f) some.is
        ∙ rw h.0 refl

all-after : (R : RowEntry → Line → Type 0) (es : List RowEntry) (ls : List Line) → AreApart es
    → AllZip R es ls
    → map (λ (s : RowEntry). seen_after (new_text (writes es ls) s.literal) s) es ≡ renewed es ls
all-after R [] [] a h = refl
all-after R [] (l ∷ ls) a h = absurd h
all-after R (e ∷ es) [] a h = absurd h
all-after R (e ∷ es) (l ∷ ls) a h =
    ap (λ (x : RowEntry). x ∷ map
    (λ (s : RowEntry). seen_after (new_text (with_write (write_on e l) (writes es ls)) s.literal) s) es)
    (first-after e l (writes es ls) (untouched es ls e.literal (apart-back e es a.0)))
    ∙ ap (λ (xs : List RowEntry). renew e l ∷ xs)
    (rest-after e l (writes es ls) es a.0 ∙ all-after R es ls a.1 h.1)

-- the seen entries of the tree in which the rows were written
pub written-seen : (R : RowEntry → Line → Type 0) (t u : Tree) (ls : List Line) → AreApart (row_entries t)
    → AllZip R (row_entries t) ls
    → ((q : Place) → u q ≡ tree_with_strings (writes (row_entries t) ls) t q)
    → row_entries u ≡ renewed (row_entries t) ls
written-seen R t u ls apart zip h =
    let ws = writes (row_entries t) ls in
    let whole : u ≡ tree_with_strings ws t = λ i q. h q i in
    ap row_entries whole
    ∙ ap (filter_map with_row) (entries-after ws t [] (writes-strings t ls) (writes-literals t ls))
    ∙ rows-after ws (entries t [])
    ∙ all-after R (row_entries t) ls apart zip
