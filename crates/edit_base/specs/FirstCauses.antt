-- The first element of a list that is the cause of an error (own).
use Rattle.std.specs.Prelude.{◌≡◌, ◌∷◌, ◌++◌, List, All}

-- an element of a list is a cause, and all elements before it are good
pub record HasFirstCause {X : Type 0} (IsGood IsCause : X → Type 0) (xs : List X) : Type 0 where
  pub before : List X
  pub first : X
  pub behind : List X
  pub within : xs ≡ before ++ first ∷ behind
  pub good : All IsGood before
  pub cause : IsCause first
