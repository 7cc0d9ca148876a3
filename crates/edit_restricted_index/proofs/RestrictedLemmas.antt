-- The results of a restricted index, from those of the index below it.
use Rattle.std.proofs.Common.{◌≡◌, ℕ, List, None, Option, Result, Some, Ok, inl, inr, refl, subst}
use Rattle.std.proofs.lemmas.Result.{IfErr-weaker}
use Rattle.std.specs.Prelude.{◌≤◌}
use Rattle.url.specs.Parts.{Parts}
use Rattle.edit_base.specs.declared.errors.Error.{Error}
use Rattle.edit_sources.specs.Index.{HasLookupCause, IndexView, IsLookupError, SameOutcomes}
use Rattle.edit_version.specs.IndexEntry.{IndexEntry}
use Rattle.edit_restricted_index.specs.RestrictedIndex.{index_of, restricted_answer, restricted_view, test_in, view_of}
use Rattle.edit_restricted_index.specs.Restrictions.{VersionTest}
use Rattle.edit_restricted_index.specs.declared.restricted_index.RestrictedIndex.{RestrictedIndex}

-- the same results below give the same restricted results
pub same_restricted : (test : Option VersionTest) (old new : IndexView)
    → SameOutcomes old.gives new.gives
    → SameOutcomes (restricted_view test old).gives (restricted_view test new).gives
same_restricted None old new same = same
same_restricted (Some test) old new same = λ address name outcome. (
  λ r. record { whole = r.whole; given = (same address name r.whole).0 r.given; is = r.is },
  λ r. record { whole = r.whole; given = (same address name r.whole).1 r.given; is = r.is },
)

-- an answer below gives the restricted one
given_restricted : (test : Option VersionTest) (v : IndexView) (address : Parts) (name : List ℕ)
    (answer : Option (List IndexEntry)) → v.gives address name (Ok answer)
    → (restricted_view test v).gives address name (Ok (restricted_answer test name answer))
given_restricted None v address name answer given = given
given_restricted (Some test) v address name answer given =
    record { whole = Ok answer; given = given; is = refl }

-- an answer that is the restricted one is given
pub answer_given : (test : Option VersionTest) (v : IndexView) (address : Parts) (name : List ℕ)
    (answer part : Option (List IndexEntry)) → v.gives address name (Ok answer)
    → restricted_answer test name answer ≡ part
    → (restricted_view test v).gives address name (Ok part)
answer_given test v address name answer part given is =
    subst (λ (a : Option (List IndexEntry)). (restricted_view test v).gives address name (Ok a)) is
    (given_restricted test v address name answer given)

-- an error of a lookup below is one of the restricted lookup
error_restricted : (test : Option VersionTest) (old new : IndexView) (address : Parts)
    (name : List ℕ) (e : Error) → IsLookupError old new address name e
    → IsLookupError (restricted_view test old) (restricted_view test new) address name e
error_restricted None old new address name e h = h
error_restricted (Some test) old new address name e (inl memory) = inl memory
error_restricted (Some test) old new address name e (inr (inl (number, given))) =
    inr (inl (number, record { whole = _; given = given; is = refl }))
error_restricted (Some test) old new address name e (inr (inr failed)) = inr (inr failed)

-- the count of faults is that of the index below
pub same_faults : (test : Option VersionTest) (v : IndexView)
    → (restricted_view test v).faults ≡ v.faults
same_faults None v = refl
same_faults (Some test) v = refl

pub faults_later : (test : Option VersionTest) (old new : IndexView) → old.faults ≤ new.faults
    → (restricted_view test old).faults ≤ (restricted_view test new).faults
faults_later None old new h = h
faults_later (Some test) old new h = h

-- the cause of a failed lookup below is that of the restricted one
pub cause_restricted : {T : Type 0} (test : Option VersionTest) (old new : IndexView)
    (address : Parts) (name : List ℕ) (r : Result T Error) → HasLookupCause old new address name r
    → HasLookupCause (restricted_view test old) (restricted_view test new) address name r
cause_restricted test old new address name r h = record {
  later = faults_later test old new h.later;
  refused = IfErr-weaker r _ _ (λ e. error_restricted test old new address name e) h.refused;
}

-- what holds of the model of a restricted index holds of the index below it, restricted by an equal test
pub over_restricted : {I : Type 0} (view : I → IndexView) (i : RestrictedIndex I) (index : I)
    (test : Option VersionTest) (P : IndexView → Type 0) → index_of i ≡ index → test_in i ≡ test
    → P (view_of view i) → P (restricted_view test (view index))
over_restricted {I} view i index test P is same h =
    subst (λ (x : I). P (restricted_view test (view x))) is
    (subst (λ (t : Option VersionTest). P (restricted_view t (view (index_of i)))) same h)
