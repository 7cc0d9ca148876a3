-- The last of the greatest entries of a list that satisfy a condition (own).
use Rattle.std.specs.Prelude.{◌≡◌, if◌then◌else◌, ◌++◌, ◌∷◌, List, Bool, Option, Some, None, true, false, All}
use Rattle.std.specs.Ordering.{is_le, is_lt}
use Rattle.std.specs.declared.cmp.Ordering.{Ordering}
use Rattle.std.specs.declared.cmp.Ordering.TheVariants.{Less}

-- an entry that satisfies the condition; of those that do, none before it exceeds it, and all after it are
-- below
pub record IsGreatestItem {X : Type 0} (keep : X → Bool) (cmp : X → X → Ordering) (xs : List X) (e : X)
    : Type 0 where
  pub front : List X
  pub rest : List X
  pub split : xs ≡ front ++ e ∷ rest
  pub qualifies : keep e ≡ true
  pub before : All (λ x. keep x ≡ true → is_le (cmp x e) ≡ true) front
  pub after : All (λ x. keep x ≡ true → cmp x e ≡ Less) rest

-- the last greatest entry that satisfies the condition, or none where no entry does
abbrev pub IsGreatest : {X : Type 0} → (X → Bool) → (X → X → Ordering) → List X → Option X → Type 0
IsGreatest keep cmp xs None = All (λ x. keep x ≡ false) xs
IsGreatest keep cmp xs (Some e) = IsGreatestItem keep cmp xs e

-- the entry itself, unless it is below the one before it
abbrev pub pick : {X : Type 0} → (X → X → Ordering) → Option X → X → X
pick cmp None x = x
pick cmp (Some e) x = if is_lt (cmp x e) then e else x

-- the greatest so far, after one more entry
abbrev pub advance : {X : Type 0} → (X → Bool) → (X → X → Ordering) → Option X → X → Option X
advance keep cmp best x = if keep x then Some (pick cmp best x) else best
