-- Which packages of a lock file are set back, and to what (own).
use Rattle.std.specs.Prelude.{◌&&◌, ◌||◌, ℕ, List, Bool, true, false, Option, Some, None, find, not, option_map}
use Rattle.std.specs.List.{filter_map, list_any}
use Rattle.edit_lock_bounds.specs.Changes.{Change, changed_packages, is_same_source, is_text_of}
use Rattle.edit_lock_bounds.specs.Choices.{Candidate, Crate, Known, Limits, best, candidates, known_of}
use Rattle.edit_lock_bounds.specs.LockPackages.{Package}

-- what becomes of a package that a run may not leave at its version (own)
pub data Outcome : Type 0 where
  -- it is set back to a version
  SetBack : List ℕ → Outcome
  -- no eligible version is admitted
  NoneFits : Outcome
  -- nothing is known of its crate
  Unknown : Outcome

-- a package and what becomes of it (own)
pub record Correction : Type 0 where
  pub locked : Package
  pub outcome : Outcome

-- the eligible versions of the first crate that comes from a source, none where nothing is known of it (own)
abbrev pub eligible_among : List Crate → Option (List ℕ) → Option (List (List ℕ))
eligible_among crates source = option_map (λ c. c.versions) (find (λ c. is_same_source source (Some c.source)) crates)

-- the eligible versions of the crate of a package, none where nothing is known of it (own)
abbrev pub eligible : Known → Package → Option (List (List ℕ))
eligible k p = eligible_among k.crates p.source

-- a package may stay at its version: that is eligible, and it was chosen or no candidate was (own)
abbrev pub may_stay : Known → Package → List (List ℕ) → List Candidate → Bool
may_stay k p versions cs =
    is_text_of versions p.version && (is_text_of k.chosen p.version || not (list_any (λ c. c.is_chosen) cs))

-- set back to the best candidate, where there is one (own)
abbrev pub outcome_of : Option Candidate → Outcome
outcome_of None = NoneFits
outcome_of (Some c) = SetBack c.text

-- what becomes of a package, by whether it may stay and by the candidates (own)
abbrev pub outcome_unless : Bool → List Candidate → Option Outcome
outcome_unless true cs = None
outcome_unless false cs = Some (outcome_of (best cs))

-- what becomes of a package, by the eligible versions of its crate (own)
abbrev pub outcome_among : Known → Package → Option (List (List ℕ)) → Option Outcome
outcome_among k p None = Some Unknown
outcome_among k p (Some versions) =
    outcome_unless (may_stay k p versions (candidates k p versions)) (candidates k p versions)

-- what becomes of a package, none where it stays (own)
abbrev pub outcome : Known → Package → Option Outcome
outcome k p = outcome_among k p (eligible k p)

-- the correction of a package by what is known of the crates of its name, none where it stays (own)
abbrev pub correction_by : Known → Package → Option Correction
correction_by k p = option_map (λ o. record { locked = p; outcome = o }) (outcome k p)

-- the correction of a package, none where it stays (own)
abbrev pub correction : Limits → Package → Option Correction
correction l p = correction_by (known_of l p.name) p

-- the corrections of the changed packages, in the order of the lock file (own)
abbrev pub corrections : Change → Limits → List Correction
corrections c l = filter_map (correction l) (changed_packages c)
