-- The results of lookups, given the outcomes of their transfers.
use Rattle.std.specs.Prelude.{◌≡◌, ◌<◌, ℕ, ◌+◌, List, Option, Some, None, Bool, true, false, ◌||◌, nat_eq, codes, slice_get}
use Rattle.std.specs.List.{starts_with}
use Rattle.edit_store.specs.Store.{Files}
use Rattle.edit_lookups.specs.Lookups.{LookupText}
use Rattle.edit_answers.specs.Changes.{AllowsChanges}
use Rattle.edit_answers.specs.Locals.{SettlesLocal}
use Rattle.edit_answers.specs.Meanings.{Means}
use Rattle.edit_answers.specs.Outcomes.{PutsAmong, Settles, Stores}
use Rattle.edit_answers.specs.declared.answers.Answer.{Answer}
use Rattle.edit_answers.specs.declared.meaning.Failure.TheVariants.{NotFetchable, Offline}
use Rattle.edit_answers.specs.declared.meaning.Meaning.{Meaning}
use Rattle.edit_answers.specs.declared.meaning.Meaning.TheVariants.{Failed}
use Rattle.edit_answers.specs.declared.meaning.Outcome.{Outcome}
use Rattle.edit_answers.specs.declared.places.Places.{Places}

-- the address is that of a registry with the sparse protocol
abbrev pub is_sparse : List ℕ → Bool
is_sparse address =
    starts_with nat_eq address (codes "sparse+http://") || starts_with nat_eq address
    (codes "sparse+https://")

-- the address is that of a registry on this machine
abbrev pub is_local : List ℕ → Bool
is_local address = starts_with nat_eq address (codes "file:")

-- the meaning of a transfer for an entry of a registry: a failure where the registry is not sparse, or the
-- run is offline
pub data MeansFor (address : List ℕ) (is_offline : Bool) (answer : Option Answer) : Meaning → Type 0 where
  not_fetchable : is_sparse address ≡ false → MeansFor address is_offline answer (Failed NotFetchable)
  offline : is_sparse address ≡ true → is_offline ≡ true → MeansFor address is_offline answer (Failed Offline)
  online : (m : Meaning) → is_sparse address ≡ true → is_offline ≡ false → Means answer m
      → MeansFor address is_offline answer m

-- the result of a lookup, given the kind of its registry and the outcome of its transfer
pub data HasOutcome (p : Places) (l : LookupText) (number : ℕ) (is_offline : Bool) (answer : Option Answer)
    (files : Files)
    : Outcome → Type 0 where
  local : (o : Outcome) → is_local l.address ≡ true → SettlesLocal l files o
      → HasOutcome p l number is_offline answer files o
  answered : (m : Meaning) (o : Outcome) → is_local l.address ≡ false → MeansFor l.address is_offline answer m
      → Settles p l number files m o → HasOutcome p l number is_offline answer files o

-- the outcome in a slot of a table, if the slot exists
abbrev pub the_answer : Option (Option Answer) → Option Answer
the_answer None = None
the_answer (Some answer) = answer

-- the outcome at an index of a table; none past its end
abbrev pub answer_at : List (Option Answer) → ℕ → Option Answer
answer_at answers k = the_answer (slice_get answers k)

-- the result of a lookup follows from the outcome at its index and the files before it, and determines the
-- files after it; only earlier lookups change files before, and only later ones after that
pub record HasFollowed (p : Places) (ls : List LookupText) (is_offline : Bool)
    (answers : List (Option Answer))
    (old new : Files) (k : ℕ) (l : LookupText) (o : Outcome) : Type 0 where
  pub before : Files
  pub after : Files
  pub from_old : AllowsChanges (PutsAmong p ls (λ n. n < k)) old before
  pub follows : HasOutcome p l (k + 1) is_offline (answer_at answers k) before o
  pub stores : Stores o p l (k + 1) before after
  pub to_new : AllowsChanges (PutsAmong p ls (λ n. k < n)) after new

-- each result follows from the outcome at its index
abbrev pub AllFollow : Places → List LookupText → Bool → List (Option Answer) → Files → Files → List Outcome
    → Type 0
AllFollow p ls is_offline answers old new outcomes =
    (k : ℕ) (l : LookupText) (o : Outcome) → slice_get ls k ≡ Some l → slice_get outcomes k ≡ Some o
    → HasFollowed p ls is_offline answers old new k l o
