-- The meanings of transfers.
use Rattle.std.specs.Prelude.{◌≡◌, ◌≢◌, ◌⊎◌, ℕ, List, Option, Some, None, Bool, true, false, codes}
use Rattle.std.specs.Borrow.{Bor}
use Rattle.std.specs.Str.{bytes_eq}
use Rattle.edit_answers.specs.declared.answers.Answer.{Answer}
use Rattle.edit_answers.specs.declared.meaning.Failure.TheVariants.{Curl, Status, Token, Unanswered}
use Rattle.edit_answers.specs.declared.meaning.Meaning.{Meaning}
use Rattle.edit_answers.specs.declared.meaning.Meaning.TheVariants.{Absent, Failed, Moved, New, NotModified}

-- the HTTP statuses for a crate that does not exist (Cargo reference, "Registries", nonexistent crates)
abbrev pub IsAbsence : List ℕ → Type 0
IsAbsence code = (code ≡ codes "404") ⊎ ((code ≡ codes "410") ⊎ (code ≡ codes "451"))

-- the meaning of a new body, given whether no redirect was followed
abbrev pub new_meaning : Bool → Meaning
new_meaning true = New
new_meaning false = Moved

-- the meaning of a transfer that did not fail, by its HTTP status; that of a body depends on the redirects
-- too
pub data MeansBy (code : Bor (List ℕ)) (redirects : List ℕ) : Meaning → Type 0 where
  new : code.now ≡ codes "200" → MeansBy code redirects (new_meaning (bytes_eq redirects (codes "0")))
  not_modified : code.now ≡ codes "304" → MeansBy code redirects NotModified
  absent : IsAbsence code.now → MeansBy code redirects Absent
  other : code.now ≢ codes "200" → code.now ≢ codes "304" → (IsAbsence code.now → ⊥)
      → MeansBy code redirects (Failed (Status code))

-- the meaning of a transfer; the HTTP status of a failed one is ignored, and `token` in place of the exit
-- code says that the registry accepted no token (own)
pub data Means : Option Answer → Meaning → Type 0 where
  unanswered : Means None (Failed Unanswered)
  failed : (a : Answer) → a.exit.now ≢ codes "0" → a.exit.now ≢ codes "token"
      → Means (Some a) (Failed (Curl a.exit a.message))
  unauthorized : (a : Answer) → a.exit.now ≡ codes "token" → Means (Some a) (Failed (Token a.message))
  answered : (a : Answer) (m : Meaning) → a.exit.now ≡ codes "0" → MeansBy a.code a.redirects.now m
      → Means (Some a) m
