-- The order of a run's locks (own).
use Rattle.std.specs.Prelude.{ℕ, List}
use Rattle.std.specs.List.Sorted.{IsStrictlySortedBy}
use Rattle.std.specs.Ordering.{nat_cmp, ordering_then}

-- folders by their devices and numbers, in the order in which each run locks them: by device and then by
-- number, each folder once. Since all runs take this order, no two wait for each other (own)
abbrev pub AreInLockOrder : List (ℕ × ℕ) → Type 0
AreInLockOrder folders =
    IsStrictlySortedBy (λ a b. ordering_then (nat_cmp a.0 b.0) (nat_cmp a.1 b.1)) folders
