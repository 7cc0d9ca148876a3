-- The writes and the report of a run.
use Rattle.std.specs.Prelude.{◌≡◌, ℕ, List, [], ◌∷◌, ◌++◌, Option, Some, None, codes, length, map}
use Rattle.std.specs.List.{zip}
use Rattle.std.specs.Str.Lossy.{utf8_lossy}
use Rattle.edit_store.specs.Store.{Files}
use Rattle.edit_lookups.specs.Lookups.{LookupText, HasLookupLines, lookup_text}
use Rattle.edit_lookups.specs.declared.lookups.Lookup.{Lookup}
use Rattle.edit_answers.specs.Answers.{AreFirst, AreFound}
use Rattle.edit_answers.specs.OutcomeRules.{AllFollow}
use Rattle.edit_answers.specs.Groups.{included_lookups}
use Rattle.edit_answers.specs.Listing.{PutsList, WritesList}
use Rattle.edit_answers.specs.Messages.{IsReport, IsUnreadable}
use Rattle.edit_answers.specs.Outcomes.{PutsSome}
use Rattle.edit_answers.specs.declared.answers.Answer.{Answer}
use Rattle.edit_answers.specs.declared.meaning.Outcome.{Outcome}
use Rattle.edit_answers.specs.declared.messages.Report.{Report}
use Rattle.edit_answers.specs.declared.messages.StoreOptions.{StoreOptions}
use Rattle.edit_answers.specs.declared.places.Places.{Places}

-- the text of a file, lossily decoded; empty where no file exists
abbrev pub text_of : Option (List ℕ) → List ℕ
text_of None = []
text_of (Some bytes) = utf8_lossy bytes

-- the text of the file with the lookups of a run
abbrev pub lookups_text : Places → Files → List ℕ
lookups_text p files = text_of (files (p.room.now ++ 47 ∷ codes "lookups"))

-- the text of the file with the outcomes of the transfers
abbrev pub answers_text : Places → Files → List ℕ
answers_text p files = text_of (files (p.room.now ++ 47 ∷ codes "answers"))

-- the writes that these lookups allow: their entries, and the list of the available ones
pub data PutsRun (p : Places) (ls : List Lookup) (path bytes : List ℕ) : Type 0 where
  entry : PutsSome p (map lookup_text ls) path bytes → PutsRun p ls path bytes
  list : (outcomes : List Outcome) → PutsList p (zip ls outcomes) path bytes → PutsRun p ls path bytes

-- the writes that the lookups of a run allow
pub record PutsOf (p : Places) (files : Files) (path bytes : List ℕ) : Type 0 where
  pub lookups : List Lookup
  pub say : HasLookupLines (lookups_text p files) (map lookup_text lookups)
  pub puts : PutsRun p lookups path bytes

-- the results of the lookups follow from the outcomes of their transfers, and determine the files after them
pub record HasOutcomes (p : Places) (options : StoreOptions) (old new : Files) (ls : List Lookup)
    (outcomes : List Outcome)
    : Type 0 where
  pub answers : List (Option Answer)
  pub are_first : AreFirst (answers_text p old) answers
  pub are_found : AreFound (answers_text p old) answers
  pub all_answers : length answers ≡ length ls
  pub all_outcomes : length outcomes ≡ length ls
  pub follow : AllFollow p (map lookup_text ls) options.offline answers old new outcomes

-- the results of lookups: first their entries are stored, then the list of the available ones is written, and
-- the report is that of the lookups without the excluded crates
pub record ReportsOn (p : Places) (options : StoreOptions) (old new : Files) (ls : List Lookup) (r : Report)
    : Type 0 where
  pub outcomes : List Outcome
  pub stored : Files
  pub by_answers : HasOutcomes p options old stored ls outcomes
  pub listed : WritesList p (zip ls outcomes) stored new
  pub says : IsReport options.offline (included_lookups options.excluded.now ls outcomes) r

-- the results of a run: those of all its lookups, or that their file is malformed
pub data Reports (p : Places) (options : StoreOptions) (old new : Files) (r : Report) : Type 0 where
  readable : (ls : List Lookup) → HasLookupLines (lookups_text p old) (map lookup_text ls)
      → ReportsOn p options old new ls r → Reports p options old new r
  malformed : ((ls : List LookupText) → HasLookupLines (lookups_text p old) ls → ⊥) → IsUnreadable r
      → Reports p options old new r
