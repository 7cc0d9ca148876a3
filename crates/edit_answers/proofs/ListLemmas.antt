-- The list of the available entries, one lookup after another.
use Rattle.std.proofs.Common.{◌≡◌, ℕ, List, [], ◌∷◌, ◌++◌, Bool, true, false, sym, ◌∙◌, ap, append-nil}
use Rattle.std.specs.List.{flat_map}
use Rattle.std.proofs.lemmas.Bool.{false≢true}
use Rattle.std.proofs.lemmas.Grind.{flat_map-append}
use Rattle.index_list.specs.EntryLists.{EntryText, entry_record}
use Rattle.edit_lookups.specs.Lookups.{LookupText, lookup_text}
use Rattle.edit_lookups.specs.declared.lookups.Lookup.{Lookup}
use Rattle.edit_answers.specs.Listing.{HasEntry, HasFile, IsListOf, entry_at, is_in_cache, is_local_entry}
use Rattle.edit_answers.specs.Listing.HasFile.{cached, local}
use Rattle.edit_answers.specs.Listing.HasEntry.{some, none}
use Rattle.edit_answers.specs.Listing.AreAvailable.{more}
use Rattle.edit_answers.specs.Locals.{IsLocalFile}
use Rattle.edit_answers.specs.declared.meaning.Outcome.{Outcome}
use Rattle.edit_answers.specs.declared.places.Places.{Places}

-- entries of which one is added are added to a text
abbrev pub Adds : Places → LookupText → Outcome → List ℕ → List ℕ → Type 0
Adds p l o old new =
    (entries : List EntryText) × HasEntry p l o entries × (new ≡ old ++ flat_map entry_record entries)

module _ (p : Places) (l : LookupText) (o : Outcome) where
  -- the entry of a lookup is added
  pub adds-file : (is_cached : Bool) (file f : List ℕ) (old new : List ℕ) → HasFile p l o is_cached file
      → f ≡ file → new ≡ old ++ entry_record (entry_at is_cached l f) → Adds p l o old new
  adds-file is_cached file f old new is at e = (
    entry_at is_cached l file ∷ [],
    some is_cached file is,
    e ∙ ap (λ x. old ++ entry_record (entry_at is_cached l x)) at
        ∙ ap (λ t. old ++ t) (sym (append-nil (entry_record (entry_at is_cached l file)))),
  )

  -- a lookup that has no file
  no-file : is_in_cache o ≡ false
      → ((file : List ℕ) → is_local_entry o ≡ true → IsLocalFile l file → ⊥)
      → (is_cached : Bool) (file : List ℕ) → HasFile p l o is_cached file → ⊥
  no-file out lacks is_cached file (cached holds) = false≢true (sym out ∙ holds)
  no-file out lacks is_cached file (local f holds is) = lacks f holds is

  -- no entry is added
  pub adds-none : (text : List ℕ) → is_in_cache o ≡ false
      → ((file : List ℕ) → is_local_entry o ≡ true → IsLocalFile l file → ⊥) → Adds p l o text text
  adds-none text out lacks = ([], none (no-file out lacks), sym (append-nil text))

-- one lookup more
pub listed-more : (p : Places) (pairs : List (Lookup × Outcome)) (l : Lookup) (o : Outcome) (old new : List ℕ)
    → IsListOf p pairs old → Adds p (lookup_text l) o old new → IsListOf p (pairs ++ (l, o) ∷ []) new
listed-more p pairs l o old new was adds = record {
  entries = was.entries ++ adds.0;
  available = more pairs l o was.entries adds.0 was.available adds.1;
  is = adds.2 ∙ ap (λ t. t ++ flat_map entry_record adds.0) was.is
      ∙ sym (flat_map-append entry_record was.entries adds.0);
}
