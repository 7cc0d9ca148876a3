-- The results of a lookup in an index that is restricted to some versions of crates.
use Rattle.std.specs.Prelude.{◌≡◌, ℕ, List, Bool, Option, Some, None, Ok, Err, option_map}
use Rattle.url.specs.Parts.{Parts}
use Rattle.edit_sources.specs.Index.{IndexView, Outcome, Outcomes}
use Rattle.edit_version.specs.IndexEntry.{IndexEntry}
use Rattle.edit_restricted_index.specs.Restrictions.{VersionTest, retained_entries}
use Rattle.edit_restricted_index.specs.VersionTests.{tests_of}
use Rattle.edit_restricted_index.specs.declared.restricted_index.RestrictedIndex.{RestrictedIndex}

-- the answer of a lookup of a name, with only the entries in versions that pass a test where one is given
-- (own)
abbrev pub restricted_answer : Option VersionTest → List ℕ → Option (List IndexEntry)
    → Option (List IndexEntry)
restricted_answer None name answer = answer
restricted_answer (Some test) name answer = option_map (retained_entries (test name)) answer

-- a result of a lookup with only the entries in versions that pass a test; that there is no such crate, and
-- errors, stay as they are (own)
abbrev pub restricted_outcome : (List ℕ → Bool) → Outcome → Outcome
restricted_outcome keeps (Ok answer) = Ok (option_map (retained_entries keeps) answer)
restricted_outcome keeps (Err e) = Err e

-- the result of a lookup in an index, with only the entries of the crate in versions that pass a test (own)
pub record IsRestricted (test : VersionTest) (gives : Outcomes) (address : Parts) (name : List ℕ)
    (outcome : Outcome) : Type 0 where
  pub whole : Outcome
  pub given : gives address name whole
  pub is : outcome ≡ restricted_outcome (test name) whole

-- the model of an index, restricted to the versions of crates that pass a test where one is given (own)
abbrev pub restricted_view : Option VersionTest → IndexView → IndexView
restricted_view None v = v
restricted_view (Some test) v = record { gives = IsRestricted test v.gives; faults = v.faults }

-- the index below a restricted one (own)
abbrev pub index_of : {I : Type 0} → RestrictedIndex I → I
index_of i = i.index

-- the test of a restricted index, where it has one (own)
abbrev pub test_in : {I : Type 0} → RestrictedIndex I → Option VersionTest
test_in i = tests_of i.tests

-- the model of a restricted index, by that of the index below it (own)
abbrev pub view_of : {I : Type 0} → (I → IndexView) → RestrictedIndex I → IndexView
view_of view i = restricted_view (test_in i) (view (index_of i))
