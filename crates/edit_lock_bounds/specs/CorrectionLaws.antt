-- What holds of each correction (own).
use Rattle.std.specs.Prelude.{◌≡◌, ℕ, List, [], Option, Some, None, All, Contains, true, false}
use Rattle.semver.specs.Parse.{Parts}
use Rattle.edit_version.specs.Greatest.{IsGreatestItem}
use Rattle.edit_version.specs.ReadVersion.{version_read}
use Rattle.edit_lock_bounds.specs.Changes.{Change, is_among, is_registry, is_text_of}
use Rattle.edit_lock_bounds.specs.Choices.{Candidate, Known, Limits, are_met, candidate_order, candidates, known_of, met_requirements}
use Rattle.edit_lock_bounds.specs.Corrections.{Correction, NoneFits, Outcome, SetBack, Unknown, eligible}
use Rattle.edit_lock_bounds.specs.LockPackages.{Package}

-- the lock file did not have the package before the run, its source is a registry, and its name is not exempt
-- (own)
pub record IsOfChange (c : Change) (r : Correction) : Type 0 where
  pub added : is_among c.before r.locked ≡ false
  pub registry : is_registry r.locked.source ≡ true
  pub bound : is_text_of c.exempt r.locked.name ≡ false

-- a candidate is one of the eligible versions, and each requirement admits it that admits the version of the
-- package (own)
pub record IsAdmitted (k : Known) (p : Package) (versions : List (List ℕ)) (c : Candidate) : Type 0 where
  pub listed : Contains versions c.text
  pub read : version_read c.text ≡ Some c.version
  pub current : Parts
  pub current_read : version_read p.version ≡ Some current
  pub admitted : are_met (met_requirements k.requirements p.source current) c.version ≡ true

-- a candidate is the greatest of the chosen ones, or where none was chosen, the greatest of all (own)
pub data IsBest (cs : List Candidate) (c : Candidate) : Type 0 where
  of_chosen : IsGreatestItem (λ d. d.is_chosen) candidate_order cs c → IsBest cs c
  of_all : All (λ d. d.is_chosen ≡ false) cs → IsGreatestItem (λ d. true) candidate_order cs c → IsBest cs c

-- a text is that of the best candidate for a package, which is eligible and admitted (own)
pub record IsBestText (k : Known) (p : Package) (versions : List (List ℕ)) (text : List ℕ) : Type 0 where
  pub candidate : Candidate
  pub same : candidate.text ≡ text
  pub admitted : IsAdmitted k p versions candidate
  pub best : IsBest (candidates k p versions) candidate

-- an outcome is right for the eligible versions of a crate: unknown exactly where there is no list of them,
-- unfit where none is admitted, else set back to the best (own)
abbrev pub IsRightFor : Known → Package → Option (List (List ℕ)) → Outcome → Type 0
IsRightFor k p None o = o ≡ Unknown
IsRightFor k p (Some versions) Unknown = ⊥
IsRightFor k p (Some versions) NoneFits = candidates k p versions ≡ []
IsRightFor k p (Some versions) (SetBack text) = IsBestText k p versions text

-- the outcome of a correction is right by what the limits say of crates of the package's name (own)
abbrev pub IsRight : Limits → Correction → Type 0
IsRight l r = IsRightFor (known_of l r.locked.name) r.locked (eligible (known_of l r.locked.name) r.locked) r.outcome
