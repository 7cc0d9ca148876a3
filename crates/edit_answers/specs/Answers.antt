-- The outcomes of transfers that curl writes.
use Rattle.std.specs.Prelude.{◌≡◌, ℕ, ◌+◌, ◌<◌, List, ◌∷◌, ◌++◌, Option, Some, Ok, length, slice_get}
use Rattle.std.specs.Str.Parse.{ParsesUnsigned}
use Rattle.edit_lookups.specs.Lookups.{HasNo}
use Rattle.edit_answers.specs.declared.answers.Answer.{Answer}

-- the line holds the outcome of a transfer: its number, the HTTP status, curl's exit code, the number of
-- redirects that it followed, and its message, separated by tabs
pub record IsAnswerLine (line : List ℕ) (number : ℕ) (a : Answer) : Type 0 where
  pub digits : List ℕ
  pub is : line ≡ digits ++ 9 ∷ (a.code.now ++ 9 ∷ (a.exit.now ++ 9 ∷ (a.redirects.now ++ 9 ∷ a.message.now)))
  pub number_is : ParsesUnsigned {E = Unit {0}} 64 10 digits (Ok number)
  pub no_tab_number : HasNo 9 digits
  pub no_tab : HasNo 9 a.code.now
  pub no_tab_exit : HasNo 9 a.exit.now
  pub no_tab_redirects : HasNo 9 a.redirects.now

-- the text has this complete line, without its line end
pub data HasLine (line : List ℕ) : List ℕ → Type 0 where
  first : (after : List ℕ) → HasNo 10 line → HasLine line (line ++ 10 ∷ after)
  later : (other after : List ℕ) → HasNo 10 other → HasLine line after → HasLine line (other ++ 10 ∷ after)

-- some complete line of the text holds this outcome
pub record HasAnswer (text : List ℕ) (number : ℕ) (a : Answer) : Type 0 where
  pub line : List ℕ
  pub whole : HasLine line text
  pub says : IsAnswerLine line number a

-- the first complete line of the text with an outcome of this transfer holds this outcome
pub data IsFirst (number : ℕ) (a : Answer) : List ℕ → Type 0 where
  at_head : (line after : List ℕ) → HasNo 10 line → IsAnswerLine line number a
      → IsFirst number a (line ++ 10 ∷ after)
  behind : (other after : List ℕ) → HasNo 10 other → ((b : Answer) → IsAnswerLine other number b → ⊥)
      → IsFirst number a after → IsFirst number a (other ++ 10 ∷ after)

-- each outcome of the table is the first one in the text for the transfer of its number, from 1
abbrev pub AreFirst : List ℕ → List (Option Answer) → Type 0
AreFirst text table = (k : ℕ) (a : Answer) → slice_get table k ≡ Some (Some a) → IsFirst (k + 1) a text

-- the table has an outcome at an index, from 0
abbrev pub HasAnswerAt : List (Option Answer) → ℕ → Type 0
HasAnswerAt table k = (a : Answer) × (slice_get table k ≡ Some (Some a))

-- the table has an outcome for each transfer that has one in the text
abbrev pub AreFound : List ℕ → List (Option Answer) → Type 0
AreFound text table = (k : ℕ) (a : Answer) → k < length table → HasAnswer text (k + 1) a → HasAnswerAt table k
